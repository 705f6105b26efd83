-- Paths into signatures: what they lead to is one thing, any two are in order, and a variable has at most one least root path.
-- Main results: compare-roots.
use Rattle.std.specs.Prelude.{List, ◌∷◌, ◌++◌, ◌≡◌, ℕ, ◌⊎◌}
use Rattle.std.proofs.Math.Path.{refl, sym, ap, ap₂, subst}
use Rattle.omega_kinds.specs.Kind.{Kind}
use Rattle.omega_kinds.specs.Name.{Name}
use Rattle.omega_types.specs.Ty.{Ty}
use Rattle.sig_definitions.specs.Signatures.Sig.{Sig}
use Rattle.sig_definitions.specs.Explicit.SigPath.{Item, SigPath, by_name, PathBefore, first, later, PartAt}
use Rattle.sig_laws.proofs.Algebra.PathLaws.{one-field}
use Rattle.sig_laws.proofs.Algebra.Names.{Compared, before, after, same, NameBefore, compare-names}
use Rattle.sig_definitions.specs.Explicit.RootPath.{Rooted, at, root_path, root_of, LeastRoot, least}
use Rattle.std.proofs.Math.Logic.{inl, inr}

-- paths that are equal and begin with fields begin with the same name
pub same_name_of : {l m : Name} {p q : SigPath} → Item.Part l ∷ p ≡ Item.Part m ∷ q → l ≡ m
same_name_of e = cc

-- paths that are equal go on in the same way
pub same_rest_of : {a b : Item} {p q : SigPath} → a ∷ p ≡ b ∷ q → p ≡ q
same_rest_of e = cc

pub one-part : {s q r : Sig} {p o : SigPath} {bs cs : List Kind} → PartAt s p bs q → PartAt s o cs r → p ≡ o → (bs ≡ cs) × (q ≡ r)
one-part PartAt.end PartAt.end e = (refl, refl)
one-part PartAt.end (PartAt.field h x) e = absurd (cc (e))
one-part PartAt.end (PartAt.result x) e = absurd (cc (e))
one-part (PartAt.field h x) PartAt.end e = absurd (cc (e))
one-part (PartAt.result x) PartAt.end e = absurd (cc (e))
one-part {r = r} {cs = cs} (PartAt.field h x) (PartAt.field {p = o} g y) e = one-part x (subst (λ t. PartAt t o cs r) (sym (one-field h g (same_name_of e))) y) (same_rest_of e)
one-part (PartAt.result {ks = ks} x) (PartAt.result y) e = let f = one-part x y (same_rest_of e) in (ap (λ xs. ks ++ xs) f.0, f.1)

-- at one path stands one type
pub one-type : {s : Sig} {t u : Ty} {k j : Kind} {p q : SigPath} {bs cs : List Kind} → PartAt s p bs (Sig.Typ t k) → PartAt s q cs (Sig.Typ u j) → p ≡ q → (bs ≡ cs) × (t ≡ u) × (k ≡ j)
one-type x y e = let f = one-part x y e in let g = f.1 in (f.0, cc, cc)

-- an earlier path in a structure enters an earlier field or the same one
pub before-cases : {l m : Name} {p o : SigPath} → PathBefore (Item.Part l ∷ p) (Item.Part m ∷ o) → NameBefore l m ⊎ ((l ≡ m) × PathBefore p o)
before-cases (first (by_name h)) = inl h
before-cases (later h) = inr (refl, h)

-- of paths that begin with a result, the one whose rest is first is first
pub before-result : {p o : SigPath} → PathBefore (Item.Res ∷ p) (Item.Res ∷ o) → PathBefore p o
before-result (later h) = h
before-result (first h) = elim h [ ]

-- of two paths to types in one signature, one comes before the other
pub compare-paths : {s : Sig} {t u : Ty} {k j : Kind} {p q : SigPath} {bs cs : List Kind} → PartAt s p bs (Sig.Typ t k) → PartAt s q cs (Sig.Typ u j) → Compared PathBefore p q
compare-paths PartAt.end PartAt.end = same refl
compare-paths {u = u} {j = j} (PartAt.field {l = l} {s = s} {p = p} h x) (PartAt.field {l = m} {s = r} {p = q} {bs = cs} g y) =
    go (λ e. compare-paths x (subst (λ t. PartAt t q cs (Sig.Typ u j)) (sym (one-field h g e)) y)) (compare-names l m)
  where
    deeper : l ≡ m → Compared PathBefore p q → Compared PathBefore (Item.Part l ∷ p) (Item.Part m ∷ q)
    deeper e (before b) = before (subst (λ n. PathBefore (Item.Part l ∷ p) (Item.Part n ∷ q)) e (later b))
    deeper e (after b) = after (subst (λ n. PathBefore (Item.Part n ∷ q) (Item.Part l ∷ p)) e (later b))
    deeper e (same f) = same (ap₂ (λ n o. Item.Part n ∷ o) e f)

    go : (l ≡ m → Compared PathBefore p q) → Compared NameBefore l m → Compared PathBefore (Item.Part l ∷ p) (Item.Part m ∷ q)
    go ih (before b) = before (first (by_name b))
    go ih (after b) = after (first (by_name b))
    go ih (same e) = deeper e (ih e)
compare-paths (PartAt.result {p = p} x) (PartAt.result {p = q} y) = go (compare-paths x y)
  where
    go : Compared PathBefore p q → Compared PathBefore (Item.Res ∷ p) (Item.Res ∷ q)
    go (before b) = before (later b)
    go (after b) = after (later b)
    go (same e) = same (ap (λ o. Item.Res ∷ o) e)

-- of two paths at which variables are rooted one comes first, or they are the same
pub compare-roots : {ctx : List Kind} {s : Sig} {i j : ℕ} {p q : SigPath} → Rooted ctx s i p → Rooted ctx s j q → Compared PathBefore p q
compare-roots (at x c) (at y d) = compare-paths x y

-- a variable has at most one least root path
pub one_least : {ctx ks : List Kind} {s : Sig} {i : ℕ} {p q : SigPath} → LeastRoot ctx ks s i p → LeastRoot ctx ks s i q → p ≡ q
one_least {p = p} {q = q} (least (root_path b (root_of x a)) f) (least (root_path c (root_of y d)) g) = go (compare-roots x y)
  where
    go : Compared PathBefore p q → p ≡ q
    go (before h) = absurd (g p (root_path b (root_of x a)) h)
    go (after h) = absurd (f q (root_path c (root_of y d)) h)
    go (same e) = e
