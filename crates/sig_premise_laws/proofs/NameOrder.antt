-- Names put in their order: they rise, those that rise already stay as they are, and all stay bound.
-- Main results: in_order-rise, in_order-same.
use Rattle.std.specs.Prelude.{List, [], ◌∷◌, ◌≡◌, ◌⊎◌, Bool, true, false, cond, IsTrue}
use Rattle.std.proofs.Math.Path.{refl, sym, ap, ◌∙◌, subst}
use Rattle.std.proofs.Math.Logic.{inl, inr}
use Rattle.std.proofs.lemmas.Bool.{false≢true}
use Rattle.omega_kinds.specs.Name.{Name, same_name}
use Rattle.omega_kinds.specs.LabelOrder.{name_before}
use Rattle.omega_kinds.proofs.NameLaws.{name-irreflexive, name-transitive, name-total, same_name-true, same_name-itself}
use Rattle.sig_definitions.specs.Signatures.FieldOrder.{with_name, in_order}
use Rattle.sig_definitions.specs.Signatures.RecordOrder.{BeforeNames, NamesRise}
use Rattle.sig_definitions.specs.Env.{Env}
use Rattle.sig_laws.specs.Good.{Bound}
use Rattle.sig_premise_laws.proofs.Environments.{bound-with}

pick : {A : Type 0} {x y : A} (P : A → Type 0) (b : Bool) → (b ≡ true → P x) → (b ≡ false → P y) → P (cond b x y)
pick P true f g = f refl
pick P false f g = g refl

-- a name before another one that is before names is before these names
pub before-more : (l m : Name) (names : List Name) → IsTrue (name_before l m) → BeforeNames m names → BeforeNames l names
before-more l m [] h i = tt
before-more l m (n ∷ ns) h i = (name-transitive l m n h i.0, before-more l m ns h i.1)

before-with : (m l : Name) (names : List Name) → IsTrue (name_before m l) → BeforeNames m names → BeforeNames m (with_name l names)
before-with m l [] h i = (h, tt)
before-with m l (n ∷ ns) h i = pick (BeforeNames m) (same_name l n) (λ e. i) (λ e. pick (BeforeNames m) (name_before l n) (λ d. (h, i)) (λ d. (i.0, before-with m l ns h i.1)))

-- a name more keeps names in their order
pub rise-with_name : (l : Name) (names : List Name) → NamesRise names → NamesRise (with_name l names)
rise-with_name l [] h = (tt, tt)
rise-with_name l (m ∷ ms) h = pick NamesRise (same_name l m) (λ e. h) (λ e. pick NamesRise (name_before l m) (λ d. ((d, before-more l m ms d h.0), h)) (λ d. (before-with m l ms (later e d (name-total l m)) h.0, rise-with_name l ms h.1)))
  where
    later : same_name l m ≡ false → name_before l m ≡ false → (l ≡ m) ⊎ (IsTrue (name_before l m) ⊎ IsTrue (name_before m l)) → IsTrue (name_before m l)
    later e d (inl q) = absurd (false≢true (sym e ∙ (ap (λ x. same_name l x) (sym q) ∙ same_name-itself l)))
    later e d (inr (inl q)) = absurd (false≢true (sym d ∙ q))
    later e d (inr (inr q)) = q

-- names put in order rise
pub in_order-rise : (names : List Name) → NamesRise (in_order names)
in_order-rise [] = tt
in_order-rise (l ∷ ls) = rise-with_name l (in_order ls) (in_order-rise ls)

-- a name before all of them comes first
first-put : (l : Name) (names : List Name) → BeforeNames l names → with_name l names ≡ l ∷ names
first-put l [] h = refl
first-put l (m ∷ ms) h =
    ap (λ c. cond c (m ∷ ms) (cond (name_before l m) (l ∷ m ∷ ms) (m ∷ with_name l ms))) (differ (same_name l m) (same_name-true l m))
    ∙ ap (λ c. cond c (l ∷ m ∷ ms) (m ∷ with_name l ms)) h.0
  where
    differ : (b : Bool) → (b ≡ true → l ≡ m) → b ≡ false
    differ true f = absurd (name-irreflexive m (subst (λ x. IsTrue (name_before x m)) (f refl) h.0))
    differ false f = refl

-- names that rise stay as they are when they are put in order
pub in_order-same : (names : List Name) → NamesRise names → in_order names ≡ names
in_order-same [] h = refl
in_order-same (l ∷ ls) h = ap (with_name l) (in_order-same ls h.1) ∙ first-put l ls h.0

-- names that are found are so when they are put in order
pub bound-in_order : (g : Env) (names : List Name) → Bound g names → Bound g (in_order names)
bound-in_order g [] b = tt
bound-in_order g (l ∷ ls) b = bound-with g l (in_order ls) b.0 (bound-in_order g ls b.1)
