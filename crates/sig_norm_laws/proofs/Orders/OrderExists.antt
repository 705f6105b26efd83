-- Each ordered explicit signature has an order of its quantifiers.
-- Main results: order_exists, root-each.
use Rattle.std.specs.Prelude.{ℕ, zero, suc, ◌+◌, ◌<◌, ◌≤◌, List, [], ◌∷◌, ◌++◌, ◌≡◌, ◌⊎◌, length}
use mathlib.Core.Logic.{inl, inr}
use Rattle.std.proofs.Common.{arith}
use Rattle.std.proofs.Math.Decide.{ℕ_discrete, dec_lt}
use Rattle.std.proofs.Math.Path.{refl, sym, ap, subst}
use Rattle.omega_kinds.specs.Kind.{Kind}
use Rattle.omega_kinds.specs.declared.effect.Effect.TheVariants.{Pure, Impure}
use Rattle.omega_kinds.specs.Name.{Name}
use Rattle.omega_types.specs.Ty.{Ty}
use Rattle.omega_types.specs.Binders.{extend, own}
use Rattle.sig_definitions.specs.Signatures.Sig.{Sig, Abs, SigRow, HasField, here, there}
use Rattle.sig_definitions.specs.Signatures.Alike.{ConvSig}
use Rattle.sig_definitions.specs.Explicit.SigPath.{SigPath, Item, PathBefore, begins, first, later, PartAt}
use Rattle.sig_definitions.specs.Explicit.RootPath.{Rooted, at, ParamsAvoid, RootPath, root_path, root_of}
use Rattle.sig_laws.proofs.Formed.RootNumbers.{own_falls}
use Rattle.sig_definitions.specs.QuantifierOrder.{IsNoneOf, Untaken, Counts, counts, Taking, done, next, NewOrder, NormSig, Norm, NormRow}
use Rattle.sig_definitions.specs.Explicit.WellFormed.{BeforeAll, Rising, EachRooted, WellFormed, WellFormedRow, ExplicitResults, ExplicitResultsRow, Explicit, abs, explicit, in_str, in_pure, in_impure, in_more}
use Rattle.sig_laws.proofs.Formed.WellFormedLaws.{well_formed-kinds, before_all-field}
use Rattle.omega_kinds.proofs.NameLaws.{name-irreflexive, name-transitive}
use Rattle.sig_laws.proofs.Algebra.Names.{NameBefore}
use Rattle.sig_norm_laws.proofs.Orders.Orders.{pigeonhole, nth, AllBelow}
use Rattle.sig_norm_laws.proofs.Norm.NormKeeps.{root-norm, norm-well_formed}
use Rattle.sig_norm_laws.proofs.Orders.Decided.{params_dec, rooted_dec}
use Rattle.sig_laws.proofs.Formed.WellFormedShape.{after-differs}
use Rattle.sig_laws.proofs.Algebra.Paths.{before-cases, before-result}

-- searches below a number

-- a property that is decided for each number is decided for all below a bound
pub all_below : (n : ℕ) (P : ℕ → Type 0) → ((j : ℕ) → Dec (P j)) → Dec ((j : ℕ) → j < n → P j)
all_below zero P d = yes (λ j lt. absurd (omega (arith, lt)))
all_below (suc n) P d = go (all_below n P d) (d n)
  where
    go : Dec ((j : ℕ) → j < n → P j) → Dec (P n) → Dec ((j : ℕ) → j < suc n → P j)
    go (yes h) (yes p) = yes (λ j lt. each j lt (ℕ_discrete j n))
      where
        each : (j : ℕ) → j < suc n → Dec (j ≡ n) → P j
        each j lt (yes e) = subst P (sym e) p
        each j lt (no g) = h j (grind (arith, lt, g))
    go (no h) e = no (λ g. h (λ j lt. g j (omega (arith, lt))))
    go (yes h) (no p) = no (λ g. p (g n (omega arith)))

-- the least number below n with the property, or none
pub data LeastBelow (n : ℕ) (P : ℕ → Type 0) : Type 0 where
  found : (j : ℕ) → j < n → P j → ((i : ℕ) → i < j → P i → ⊥) → LeastBelow n P
  none : ((j : ℕ) → j < n → P j → ⊥) → LeastBelow n P

-- of the numbers below a bound, the least with a decided property is found, or there is none
pub least_below : (n : ℕ) (P : ℕ → Type 0) → ((j : ℕ) → Dec (P j)) → LeastBelow n P
least_below zero P d = LeastBelow.none (λ j lt p. absurd (omega (arith, lt)))
least_below (suc n) P d = go (least_below n P d) (d n)
  where
    go : LeastBelow n P → Dec (P n) → LeastBelow (suc n) P
    go (LeastBelow.found j lt p h) e = LeastBelow.found j (omega (arith, lt)) p h
    go (LeastBelow.none h) (yes p) = LeastBelow.found n (omega arith) p h
    go (LeastBelow.none h) (no g) = LeastBelow.none (λ j lt p. each j lt p (ℕ_discrete j n))
      where
        each : (j : ℕ) → j < suc n → P j → Dec (j ≡ n) → ⊥
        each j lt p (yes e) = g (subst P e p)
        each j lt p (no f) = h j (grind (arith, lt, f)) p

-- the least path to a type with the property, or none
pub data LeastPath (s : Sig) (Q : SigPath → Type 0) : Type 0 where
  found : (p : SigPath) → Q p → ((o : SigPath) (bs : List Kind) (t : Ty) (k : Kind) → PartAt s o bs (Sig.Typ t k) → Q o → PathBefore o p → ⊥) → LeastPath s Q
  none : ((o : SigPath) (bs : List Kind) (t : Ty) (k : Kind) → PartAt s o bs (Sig.Typ t k) → Q o → ⊥) → LeastPath s Q

-- whether it holds of a path to a type is known
abbrev pub Known : Sig → (SigPath → Type 0) → Type 0
Known s Q = (p : SigPath) (bs : List Kind) (t : Ty) (k : Kind) → PartAt s p bs (Sig.Typ t k) → Dec (Q p)

-- a field is the first one or one of the others
pub field-split : {m l : Name} {t q : Sig} {rest : SigRow} → HasField (SigRow.More m t rest) l q → ((l ≡ m) × (q ≡ t)) ⊎ HasField rest l q
field-split here = inl (refl, refl)
field-split (there n h) = inr h

-- where a path to a type can go
abbrev pub Opens : Sig → Type 0
Opens (Sig.Val t) = ⊥
Opens (Sig.Meta x) = ⊥
Opens (Sig.Typ t k) = Unit {0}
Opens (Sig.Str fs) = Unit {0}
Opens (Sig.Fun Pure ks s (Abs.Ex [] r)) = Unit {0}
Opens (Sig.Fun Pure ks s (Abs.Ex (k ∷ js) r)) = ⊥
Opens (Sig.Fun Impure ks s x) = ⊥

-- a signature in which a path leads to a type is one where such a path can go
pub part-opens : {s : Sig} {p : SigPath} {bs : List Kind} {t : Ty} {k : Kind} → PartAt s p bs (Sig.Typ t k) → Opens s
part-opens PartAt.end = tt
part-opens (PartAt.field h x) = tt
part-opens (PartAt.result x) = tt

abbrev IsLonger : SigPath → Type 0
IsLonger [] = ⊥
IsLonger (a ∷ p) = Unit {0}

before-longer : {p o : SigPath} → PathBefore p o → IsLonger o
before-longer begins = tt
before-longer (first h) = tt
before-longer (later h) = tt

typ-path : {t u : Ty} {k j : Kind} {p : SigPath} {bs : List Kind} → PartAt (Sig.Typ t k) p bs (Sig.Typ u j) → p ≡ []
typ-path PartAt.end = refl

data ResultPart (ks : List Kind) (r : Sig) (o : SigPath) : Type 0 where
  in_result : (p : SigPath) (bs : List Kind) (t : Ty) (k : Kind) → o ≡ Item.Res ∷ p → PartAt r p bs (Sig.Typ t k) → ResultPart ks r o

result-part : {ks bs : List Kind} {s r : Sig} {o : SigPath} {t : Ty} {k : Kind} → PartAt (Sig.Fun Pure ks s (Abs.Ex [] r)) o bs (Sig.Typ t k) → ResultPart ks r o
result-part {t = t} {k = k} (PartAt.result {bs = bs} {p = p} x) = in_result p bs t k refl x

data RowPart (l : Name) (s : Sig) (rest : SigRow) (o : SigPath) : Type 0 where
  in_first : (p : SigPath) (bs : List Kind) (t : Ty) (k : Kind) → o ≡ Item.Part l ∷ p → PartAt s p bs (Sig.Typ t k) → RowPart l s rest o
  in_rest : (m : Name) (p : SigPath) (bs : List Kind) (t : Ty) (k : Kind) → o ≡ Item.Part m ∷ p → NameBefore l m → PartAt (Sig.Str rest) o bs (Sig.Typ t k) → RowPart l s rest o

row-part : {l : Name} {s : Sig} {rest : SigRow} {o : SigPath} {bs : List Kind} {t : Ty} {k : Kind} → BeforeAll l rest → PartAt (Sig.Str (SigRow.More l s rest)) o bs (Sig.Typ t k) → RowPart l s rest o
row-part {l} {s} {rest} {bs = bs} {t = t} {k = k} r (PartAt.field {l = m} {s = z} {p = p} h x) = go (field-split h)
  where
    go : ((m ≡ l) × (z ≡ s)) ⊎ HasField rest m z → RowPart l s rest (Item.Part m ∷ p)
    go (inl e) = in_first p bs t k (ap (λ n. Item.Part n ∷ p) e.0) (subst (λ y. PartAt y p bs (Sig.Typ t k)) e.1 x)
    go (inr g) = in_rest m p bs t k refl (before_all-field l m r g) (PartAt.field g x)

end-part : {o : SigPath} {bs : List Kind} {t : Ty} {k : Kind} → PartAt (Sig.Str SigRow.End) o bs (Sig.Typ t k) → ⊥
end-part (PartAt.field h x) = elim h [ ]

grow-part : {l : Name} {s : Sig} {rest : SigRow} {o : SigPath} {bs : List Kind} {t : Ty} {k : Kind} → BeforeAll l rest → PartAt (Sig.Str rest) o bs (Sig.Typ t k) → PartAt (Sig.Str (SigRow.More l s rest)) o bs (Sig.Typ t k)
grow-part {l} r (PartAt.field {l = m} h x) = PartAt.field (there (after-differs l m r h) h) x

not-both : (l m : Name) → NameBefore l m → NameBefore m l → ⊥
not-both l m h g = name-irreflexive l (name-transitive l m l h g)

least-typ : (t : Ty) (k : Kind) (Q : SigPath → Type 0) → Dec (Q []) → LeastPath (Sig.Typ t k) Q
least-typ t k Q (yes q) = LeastPath.found [] q (λ o bs u j x w b. before-longer b)
least-typ t k Q (no h) = LeastPath.none (λ o bs u j x w. h (subst Q (typ-path x) w))

least-result : (ks : List Kind) (s r : Sig) (Q : SigPath → Type 0) → LeastPath r (λ p. Q (Item.Res ∷ p)) → LeastPath (Sig.Fun Pure ks s (Abs.Ex [] r)) Q
least-result ks s r Q (LeastPath.found p q h) = LeastPath.found (Item.Res ∷ p) q (λ o bs t k x w b. go o (result-part x) w b)
  where
    go : (o : SigPath) → ResultPart ks r o → Q o → PathBefore o (Item.Res ∷ p) → ⊥
    go o (in_result z bs t k e y) w b = h z bs t k y (subst Q e w) (before-result (subst (λ n. PathBefore n (Item.Res ∷ p)) e b))
least-result ks s r Q (LeastPath.none h) = LeastPath.none (λ o bs t k x w. go o (result-part x) w)
  where
    go : (o : SigPath) → ResultPart ks r o → Q o → ⊥
    go o (in_result z bs t k e y) w = h z bs t k y (subst Q e w)

least-more : (l : Name) (s : Sig) (rest : SigRow) (Q : SigPath → Type 0) → BeforeAll l rest → LeastPath s (λ p. Q (Item.Part l ∷ p)) → LeastPath (Sig.Str rest) Q → LeastPath (Sig.Str (SigRow.More l s rest)) Q
least-more l s rest Q r (LeastPath.found p q h) d = LeastPath.found (Item.Part l ∷ p) q (λ o bs t k x w b. go o (row-part r x) w b)
  where
    same-field : {z : SigPath} {bs : List Kind} {t : Ty} {k : Kind} → PartAt s z bs (Sig.Typ t k) → Q (Item.Part l ∷ z) → NameBefore l l ⊎ ((l ≡ l) × PathBefore z p) → ⊥
    same-field x w (inl b) = name-irreflexive l b
    same-field {z} {bs} {t} {k} x w (inr b) = h z bs t k x w b.1

    other-field : (m : Name) {z : SigPath} → NameBefore l m → NameBefore m l ⊎ ((m ≡ l) × PathBefore z p) → ⊥
    other-field m g (inl b) = not-both l m g b
    other-field m g (inr b) = name-irreflexive l (subst (λ n. NameBefore l n) b.0 g)

    go : (o : SigPath) → RowPart l s rest o → Q o → PathBefore o (Item.Part l ∷ p) → ⊥
    go o (in_first z bs t k e x) w b = same-field x (subst Q e w) (before-cases (subst (λ n. PathBefore n (Item.Part l ∷ p)) e b))
    go o (in_rest m z bs t k e g x) w b = other-field m {z = z} g (before-cases (subst (λ n. PathBefore n (Item.Part l ∷ p)) e b))
least-more l s rest Q r (LeastPath.none h) (LeastPath.found p q g) = LeastPath.found p q (λ o bs t k x w b. go o (row-part r x) w b)
  where
    go : (o : SigPath) → RowPart l s rest o → Q o → PathBefore o p → ⊥
    go o (in_first z bs t k e x) w b = h z bs t k x (subst Q e w)
    go o (in_rest m z bs t k e f x) w b = g o bs t k x w b
least-more l s rest Q r (LeastPath.none h) (LeastPath.none g) = LeastPath.none (λ o bs t k x w. go o (row-part r x) w)
  where
    go : (o : SigPath) → RowPart l s rest o → Q o → ⊥
    go o (in_first z bs t k e x) w = h z bs t k x (subst Q e w)
    go o (in_rest m z bs t k e f x) w = g o bs t k x w

mutual
  -- of the paths to types with a known property there is a least one, or none
  pub least_path : (s : Sig) (Q : SigPath → Type 0) {ctx : List Kind} → WellFormed ctx s → Known s Q → LeastPath s Q
  least_path (Sig.Val t) Q w d = LeastPath.none (λ o bs t k x q. part-opens x)
  least_path (Sig.Meta y) Q w d = LeastPath.none (λ o bs t k x q. part-opens x)
  least_path (Sig.Typ t k) Q w d = least-typ t k Q (d [] [] t k PartAt.end)
  least_path (Sig.Str fs) Q (WellFormed.str r w) d = least_field fs Q r w d
  least_path (Sig.Fun Impure ks s x) Q w d = LeastPath.none (λ o bs t k x q. part-opens x)
  least_path (Sig.Fun Pure ks s (Abs.Ex [] r)) Q (WellFormed.pure h w) d = least-result ks s r Q (least_path r (λ p. Q (Item.Res ∷ p)) w (λ p bs t k x. d (Item.Res ∷ p) (ks ++ bs) t k (PartAt.result x)))
  least_path (Sig.Fun Pure ks s (Abs.Ex (k ∷ js) r)) Q w d = LeastPath.none (λ o bs t k x q. part-opens x)

  least_field : (fs : SigRow) (Q : SigPath → Type 0) {ctx : List Kind} → Rising fs → WellFormedRow ctx fs → Known (Sig.Str fs) Q → LeastPath (Sig.Str fs) Q
  least_field SigRow.End Q r w d = LeastPath.none (λ o bs t k x q. end-part x)
  least_field (SigRow.More l s rest) Q r (WellFormedRow.more w ws) d =
      least-more l s rest Q r.0 (least_path s (λ p. Q (Item.Part l ∷ p)) w (λ p bs t k x. d (Item.Part l ∷ p) bs t k (PartAt.field here x))) (least_field rest Q r.1 ws (λ p bs t k x. d p bs t k (grow-part r.0 x)))

-- the order

none_dec : (v : ℕ) (taken : List ℕ) → Dec (IsNoneOf v taken)
none_dec v [] = yes tt
none_dec v (i ∷ is) = go (ℕ_discrete v i) (none_dec v is)
  where
    go : Dec (v ≡ i) → Dec (IsNoneOf v is) → Dec (IsNoneOf v (i ∷ is))
    go (yes e) d = no (λ h. h.0 e)
    go (no e) (yes h) = yes (e, h)
    go (no e) (no h) = no (λ g. h g.1)

untaken_dec : (ks : List Kind) (taken : List ℕ) (v : ℕ) → Dec (Untaken ks taken v)
untaken_dec ks taken v = go (dec_lt v (length ks)) (none_dec v taken)
  where
    go : Dec (v < length ks) → Dec (IsNoneOf v taken) → Dec (Untaken ks taken v)
    go (yes a) (yes b) = yes (a, b)
    go (no a) d = no (λ u. a u.0)
    go (yes a) (no b) = no (λ u. b u.1)

counts_dec : (ctx ks : List Kind) (s : Sig) (taken : List ℕ) (v : ℕ) (p : SigPath) (bs : List Kind) (t : Ty) (k : Kind) → ConvSig (extend ctx ks) s s → PartAt s p bs (Sig.Typ t k) → Dec (Counts ctx ks s taken v p)
counts_dec ctx ks s taken v p bs t k c x = go (untaken_dec ks taken v) (rooted_dec (own ks v) c x) (all_below (length ks) (λ j. Untaken ks taken j → ParamsAvoid (extend ctx ks) s p (own ks j)) each)
  where
    each : (j : ℕ) → Dec (Untaken ks taken j → ParamsAvoid (extend ctx ks) s p (own ks j))
    each j = with-both (untaken_dec ks taken j) (params_dec p (extend ctx ks) s (own ks j) c)
      where
        with-both : Dec (Untaken ks taken j) → Dec (ParamsAvoid (extend ctx ks) s p (own ks j)) → Dec (Untaken ks taken j → ParamsAvoid (extend ctx ks) s p (own ks j))
        with-both d (yes a) = yes (λ u. a)
        with-both (yes u) (no h) = no (λ f. h (f u))
        with-both (no u) (no h) = yes (λ w. absurd (u w))

    go : Dec (Untaken ks taken v) → Dec (Rooted (extend ctx ks) s (own ks v) p) → Dec ((j : ℕ) → j < length ks → Untaken ks taken j → ParamsAvoid (extend ctx ks) s p (own ks j)) → Dec (Counts ctx ks s taken v p)
    go (yes u) (yes r) (yes a) = yes (counts u r (λ j w. a j w.0 w))
    go (no u) d e = no (λ z. not-untaken z)
      where
        not-untaken : Counts ctx ks s taken v p → ⊥
        not-untaken (counts w r a) = u w
    go (yes u) (no r) e = no (λ z. not-rooted z)
      where
        not-rooted : Counts ctx ks s taken v p → ⊥
        not-rooted (counts w x a) = r x
    go (yes u) (yes r) (no a) = no (λ z. not-avoid z)
      where
        not-avoid : Counts ctx ks s taken v p → ⊥
        not-avoid (counts w x b) = a (λ j lt y. b j y)

-- some variable counts at the path
abbrev SomeCounts : List Kind → List Kind → Sig → List ℕ → SigPath → Type 0
SomeCounts ctx ks s taken p = (v : ℕ) × Counts ctx ks s taken v p

some_dec : (ctx ks : List Kind) (s : Sig) (taken : List ℕ) (p : SigPath) (bs : List Kind) (t : Ty) (k : Kind) → ConvSig (extend ctx ks) s s → PartAt s p bs (Sig.Typ t k) → Dec (SomeCounts ctx ks s taken p)
some_dec ctx ks s taken p bs t k c x = go (least_below (length ks) (λ v. Counts ctx ks s taken v p) (λ v. counts_dec ctx ks s taken v p bs t k c x))
  where
    bound : {v : ℕ} → Counts ctx ks s taken v p → v < length ks
    bound (counts u r a) = u.0

    go : LeastBelow (length ks) (λ v. Counts ctx ks s taken v p) → Dec (SomeCounts ctx ks s taken p)
    go (LeastBelow.found v lt h g) = yes (v, h)
    go (LeastBelow.none h) = no (λ w. h w.0 (bound w.1) w.1)

root-counts : (ctx ks : List Kind) (s : Sig) (taken : List ℕ) (v : ℕ) (p : SigPath) → Untaken ks taken v → ((i : ℕ) → i < v → Untaken ks taken i → ⊥) → RootPath ctx ks s v p → Counts ctx ks s taken v p
root-counts ctx ks s taken v p u h (root_path b (root_of x a)) = counts u x (λ j w. a (own ks j) (own_falls ks v j (later-than j w (dec_lt j v))))
  where
    later-than : (j : ℕ) → Untaken ks taken j → Dec (j < v) → v ≤ j
    later-than j w (yes e) = absurd (h j e w)
    later-than j w (no e) = omega (arith, e)

counts-part : {ctx ks : List Kind} {s : Sig} {taken : List ℕ} {v : ℕ} {p : SigPath} {C : Type 0} → Counts ctx ks s taken v p → ((bs : List Kind) (t : Ty) (k : Kind) → PartAt s p bs (Sig.Typ t k) → C) → C
counts-part (counts u (at {bs = bs} {t = t} {k = k} x c) a) f = f bs t k x

Distinct : List ℕ → Type 0
Distinct [] = Unit {0}
Distinct (i ∷ is) = IsNoneOf i is × Distinct is

nth-below : (n : ℕ) (is : List ℕ) (k : ℕ) → AllBelow n is → k < length is → nth is k < n
nth-below n [] k b lt = absurd (omega (arith, lt))
nth-below n (i ∷ is) zero b lt = b.0
nth-below n (i ∷ is) (suc k) b lt = nth-below n is k b.1 (omega (arith, lt))

none-nth : (v : ℕ) (is : List ℕ) (k : ℕ) → IsNoneOf v is → k < length is → v ≡ nth is k → ⊥
none-nth v [] k h lt e = omega (arith, lt)
none-nth v (i ∷ is) zero h lt e = h.0 e
none-nth v (i ∷ is) (suc k) h lt e = none-nth v is k h.1 (omega (arith, lt)) e

nth-apart : (is : List ℕ) (k j : ℕ) → Distinct is → k < length is → j < length is → nth is k ≡ nth is j → k ≡ j
unfolding Distinct
nth-apart [] k j d lk lj e = absurd (omega (arith, lk))
nth-apart (i ∷ is) zero zero d lk lj e = refl
nth-apart (i ∷ is) zero (suc j) d lk lj e = absurd (none-nth i is j d.0 (omega (arith, lj)) e)
nth-apart (i ∷ is) (suc k) zero d lk lj e = absurd (none-nth i is k d.0 (omega (arith, lk)) (sym e))
nth-apart (i ∷ is) (suc k) (suc j) d lk lj e = ap suc (nth-apart is k j d.1 (omega (arith, lk)) (omega (arith, lj)) e)

distinct-length : (n : ℕ) (is : List ℕ) → Distinct is → AllBelow n is → length is ≤ n
distinct-length n is d b = pigeonhole n (length is) (nth is) (λ k lt. nth-below n is k b lt) (λ k j lk lj e. nth-apart is k j d lk lj e)

-- steps are as many as variables left
take_rest : (ctx ks : List Kind) (s : Sig) → WellFormed (extend ctx ks) s → EachRooted ctx ks s → (fuel : ℕ) (taken : List ℕ) → Distinct taken → AllBelow (length ks) taken → length ks ≡ fuel + length taken → (order : List ℕ) × Taking ctx ks s taken order
unfolding Distinct
take_rest ctx ks s w r zero taken d b e = ([], done (λ j u. let h = distinct-length (length ks) (j ∷ taken) (u.1, d) (u.0, b) in omega (arith, h, e)))
take_rest ctx ks s w r (suc fuel) taken d b e = go (least_path s (SomeCounts ctx ks s taken) w (λ p bs t k x. some_dec ctx ks s taken p bs t k (well_formed-kinds w) x)) (λ v u. take_rest ctx ks s w r fuel (v ∷ taken) (u.1, d) (u.0, b) (omega (arith, e)))
  where
    untaken-of : {v : ℕ} {p : SigPath} → Counts ctx ks s taken v p → Untaken ks taken v
    untaken-of (counts u x a) = u

    all-taken : ((o : SigPath) (bs : List Kind) (t : Ty) (k : Kind) → PartAt s o bs (Sig.Typ t k) → SomeCounts ctx ks s taken o → ⊥) → (j : ℕ) → Untaken ks taken j → ⊥
    all-taken h j u = first-one (least_below (length ks) (Untaken ks taken) (untaken_dec ks taken))
      where
        first-one : LeastBelow (length ks) (Untaken ks taken) → ⊥
        first-one (LeastBelow.none g) = g j u.0 u
        first-one (LeastBelow.found v lt u g) =
            let q = r v lt in
            let c = root-counts ctx ks s taken v q.0 u g q.1 in
            counts-part c (λ bs t k x. h q.0 bs t k x (v, c))

    go : LeastPath s (SomeCounts ctx ks s taken) → ((v : ℕ) → Untaken ks taken v → (order : List ℕ) × Taking ctx ks s (v ∷ taken) order) → (order : List ℕ) × Taking ctx ks s taken order
    go (LeastPath.none h) f = ([], done (all-taken h))
    go (LeastPath.found p q h) f =
        let w = f q.0 (untaken-of q.1) in
        (q.0 ∷ w.0, next q.1 (λ j o c b. counts-part c (λ bs t k x. h o bs t k x (j, c) b)) w.1)

-- each ordered explicit signature has an order of its quantifiers
pub order_exists : (ctx ks : List Kind) (s : Sig) → WellFormed (extend ctx ks) s → EachRooted ctx ks s → (order : List ℕ) × NewOrder ctx ks s order
unfolding Distinct
order_exists ctx ks s w r = take_rest ctx ks s w r (length ks) [] tt tt (omega arith)

-- norm exists, and there is one

-- norm of the parts keeps that each hidden type has a root path
pub root-each : {ctx ks : List Kind} {s t : Sig} → NormSig (extend ctx ks) s t → EachRooted ctx ks s → EachRooted ctx ks t
root-each n r i lt = let q = r i lt in (q.0, root-norm n q.1)

pub data NormOf (ctx : List Kind) (s : Sig) : Type 0 where
  norm_of : (t : Sig) → NormSig ctx s t → NormOf ctx s

pub data NormOfRow (ctx : List Kind) (fs : SigRow) : Type 0 where
  norm_of : (gs : SigRow) → NormRow ctx fs gs → NormOfRow ctx fs

-- the norm of a signature that hides types exists
pub data NormOfAbs (ctx : List Kind) (x : Abs) : Type 0 where
  norm_of : (y : Abs) → Norm ctx x y → NormOfAbs ctx x

norm-abs : (ctx ks : List Kind) (s : Sig) → WellFormed (extend ctx ks) s → EachRooted ctx ks s → NormOf (extend ctx ks) s → NormOfAbs ctx (Abs.Ex ks s)
norm-abs ctx ks s w r (NormOf.norm_of t n) = let o = order_exists ctx ks t (norm-well_formed n w) (root-each n r) in NormOfAbs.norm_of _ (Norm.ex n o.1)

norm-pure : {ctx ks : List Kind} {s r : Sig} → NormOf (extend ctx ks) s → NormOf (extend ctx ks) r → NormOf ctx (Sig.Fun Pure ks s (Abs.Ex [] r))
norm-pure (NormOf.norm_of t n) (NormOf.norm_of q m) = NormOf.norm_of _ (NormSig.pure n m)

norm-impure : (ctx ks : List Kind) (s : Sig) (x : Abs) → WellFormed (extend ctx ks) s → EachRooted ctx ks s → NormOf (extend ctx ks) s → NormOfAbs (extend ctx ks) x → NormOf ctx (Sig.Fun Impure ks s x)
norm-impure ctx ks s x w r (NormOf.norm_of t n) (NormOfAbs.norm_of y m) = let o = order_exists ctx ks t (norm-well_formed n w) (root-each n r) in NormOf.norm_of _ (NormSig.impure n o.1 m)

norm-meta : {ctx : List Kind} {x : Abs} → NormOfAbs ctx x → NormOf ctx (Sig.Meta x)
norm-meta (NormOfAbs.norm_of y m) = NormOf.norm_of _ (NormSig.meta m)

norm-str : {ctx : List Kind} {fs : SigRow} → NormOfRow ctx fs → NormOf ctx (Sig.Str fs)
norm-str (NormOfRow.norm_of gs m) = NormOf.norm_of _ (NormSig.str m)

norm-more : {ctx : List Kind} {l : Name} {s : Sig} {fs : SigRow} → NormOf ctx s → NormOfRow ctx fs → NormOfRow ctx (SigRow.More l s fs)
norm-more (NormOf.norm_of t n) (NormOfRow.norm_of gs m) = NormOfRow.norm_of _ (NormRow.more n m)

mutual
  pub norm_exists : {ctx : List Kind} {s : Sig} → WellFormed ctx s → ExplicitResults ctx s → NormOf ctx s
  norm_exists (WellFormed.val {t = t} h) r = NormOf.norm_of (Sig.Val t) NormSig.val
  norm_exists (WellFormed.typ {t = t} {k = k} h) r = NormOf.norm_of (Sig.Typ t k) NormSig.typ
  norm_exists (WellFormed.meta x) r = norm-meta (norm_abs_exists x)
  norm_exists (WellFormed.str a w) (in_str r) = norm-str (norm_row_exists w r)
  norm_exists (WellFormed.pure (explicit w r e) v) (in_pure q) = norm-pure (norm_exists w r) (norm_exists v q)
  norm_exists {ctx} (WellFormed.impure {ks = ks} {s = s} (explicit w r e) (abs {ctx = inner} {ks = js} {s = t} v)) (in_impure (explicit v2 q f)) =
      norm-impure ctx ks s (Abs.Ex js t) w e (norm_exists w r) (norm-abs (extend ctx ks) js t v f (norm_exists v q))

  pub norm_row_exists : {ctx : List Kind} {fs : SigRow} → WellFormedRow ctx fs → ExplicitResultsRow ctx fs → NormOfRow ctx fs
  norm_row_exists WellFormedRow.end r = NormOfRow.norm_of SigRow.End NormRow.end
  norm_row_exists (WellFormedRow.more w ws) (in_more r rs) = norm-more (norm_exists w r) (norm_row_exists ws rs)

  -- each ordered explicit signature has a norm
  pub norm_abs_exists : {ctx : List Kind} {x : Abs} → Explicit ctx x → NormOfAbs ctx x
  norm_abs_exists {ctx} (explicit {ks = ks} {s = s} w r e) = norm-abs ctx ks s w e (norm_exists w r)
