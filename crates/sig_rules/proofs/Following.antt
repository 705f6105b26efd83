-- Paths of names, followed one name after the other.
-- Main results: step-into, step-lost, path-done.
use Rattle.std.proofs.Common.{◌≡◌, ℕ, ◌+◌, ◌<◌, ◌≤◌, List, ◌∷◌, length, get_or, drop, refl, sym, subst, drop_of_length-le}
use Rattle.omega_kinds.specs.Name.{Name}
use Rattle.sig_definitions.specs.Explicit.SigPath.{PartAt}
use Rattle.sig_definitions.specs.Signatures.Sig.{Sig, SigRow, NoField}
use Rattle.sig_judgments.specs.Refinement.{Lacks, Leads, LeavesAt, here, there}
use Rattle.semantic_sigs.proofs.PartSteps.{left-more}
use Rattle.sig_rules.specs.Inner.Hidden.{IsAt}

-- what is no structure with a name lacks it
pub lacks : (s : Sig) (l : Name) → ((fs : SigRow) → s ≡ Sig.Str fs → NoField l fs) → Lacks s l
lacks (Sig.Str fs) l n = n fs refl
lacks (Sig.Val t) l n = tt
lacks (Sig.Typ t k) l n = tt
lacks (Sig.Meta x) l n = tt
lacks (Sig.Fun f ks s x) l n = tt

abbrev pub Leaves : Sig → List Name → Name → Type 0
Leaves s names l = LeavesAt (λ m. m) s names l

-- what holds from s, the first names being passed, holds from w on the whole path
abbrev pub Follows : Sig → List Name → Sig → List Name → Type 0
Follows s rest w path = ((q : Sig) → Leads s rest q → Leads w path q) × ((l : Name) → Leaves s rest l → Leaves w path l)

into : (s next : Sig) (l : Name) (rest : List Name) → IsAt s l next → ((q : Sig) → Leads next rest q → Leads s (l ∷ rest) q) × ((m : Name) → Leaves next rest m → Leaves s (l ∷ rest) m)
into s next l rest h =
    (λ q p. subst (λ u. Leads u (l ∷ rest) q) (sym h.1) (PartAt.field h.2 p), λ m p. subst (λ u. Leaves u (l ∷ rest) m) (sym h.1) (there h.2 p))

-- a path goes on into the part of its next name
pub step-into : (s next w : Sig) (path : List Name) (i : ℕ) (l : Name) → i < length path → l ≡ get_or path i l → IsAt s l next → Follows s (drop i path) w path → Follows next (drop (i + 1) path) w path
step-into s next w path i l lt el h f =
    let e = left-more path i l lt el in
    let g = into s next l (drop (i + 1) path) h in
    (λ q p. f.0 q (subst (λ names. Leads s names q) (sym e) (g.0 q p)), λ m p. f.1 m (subst (λ names. Leaves s names m) (sym e) (g.1 m p)))

-- a path leaves the signature where this lacks its next name
pub step-lost : (s w : Sig) (path : List Name) (i : ℕ) (l : Name) → i < length path → l ≡ get_or path i l → Lacks s l → Follows s (drop i path) w path → Leaves w path l
step-lost s w path i l lt el n f = f.1 l (subst (λ names. Leaves s names l) (sym (left-more path i l lt el)) (here n))

-- a path whose names are all passed leads to what it has come to
pub path-done : (s w : Sig) (path : List Name) (i : ℕ) → length path ≤ i → Follows s (drop i path) w path → Leads w path s
path-done s w path i le f = f.0 s (subst (λ names. Leads s names s) (sym (drop_of_length-le path le)) PartAt.end)
