-- What the public calls say of kinds and conversion, from the trees that they give.
-- Main results: same-converts, filled-normal, normal-form.
use Rattle.std.proofs.Common.{◌≡◌, ◌↔◌, ℕ, ◌<◌, List, ◌++◌, length, Bool as Truth, IsTrue, sym, ap, ◌∙◌, subst}
use Rattle.omega_kinds.specs.Kind.{Kind}
use Rattle.omega_types.specs.Ty.{Ty}
use Rattle.omega_types.specs.Conversion.{Conv}
use Rattle.omega_types.specs.Conversion.Conv.{c_refl}
use Rattle.omega_types.specs.Index.{bump, shift, substitute_at, Inserts}
use Rattle.omega_types.specs.Mentions.{Mentions, lower}
use Rattle.omega_types.specs.Normality.{Normal}
use Rattle.omega_types.specs.Kinding.{HasKind}
use Rattle.omega_types.specs.Normaliser.{hsubst, normal}
use Rattle.omega_types.specs.Normalises.{Maps, NormalForm}
use Rattle.omega_types.proofs.Hereditary.{hsubst-gives, normal-gives, same_exactly}
use Rattle.omega_types.proofs.Lowering.{lower_gives}
use Rattle.omega_types.proofs.Mention.{mentions_by_normal_form}
use Rattle.omega_types.proofs.Preservation.{normal-kind, normal-rename}
use Rattle.type_normal.specs.Inner.Least.{is_first, least_ty}
use Rattle.type_normal.proofs.LeastSteps.{first-mentioned}
use Rattle.type_normal.proofs.MentionedBelow.{mentioned-sound, mentioned-complete}
use Rattle.type_normal.proofs.LiftedSteps.{raised-back}

-- a raised normal type is normal where the shift keeps kinds
pub raised-normal : (by from : ℕ) (n t : Ty) → n ≡ shift by from t → (ctx other : List Kind) (k : Kind) → Maps ctx other (bump by from) → Normal ctx t k → Normal other n k
raised-normal by from n t e ctx other k m p = subst (λ u. Normal other u k) (sym e) (normal-rename (bump by from) m p)

-- the test for sameness of normal types decides their conversion
pub same-converts : (b : Truth) (s t : Ty) → (IsTrue b ↔ s ≡ t) → (ctx : List Kind) (k : Kind) → Normal ctx s k → Normal ctx t k → (IsTrue b ↔ Conv ctx s t k)
same-converts b s t e ctx k n m =
    let p = same_exactly ctx s t k n m in
    (λ h. p.0 (e.0 h), λ c. e.1 (p.1 c))

-- the test for a variable tells whether the type mentions it
pub mentions-free : (b : Truth) (i : ℕ) (t : Ty) → b ≡ is_first (least_ty i t) → (IsTrue b ↔ Mentions i t)
mentions-free b i t e =
    let f = e ∙ first-mentioned i t in
    (λ h. mentioned-sound i t (sym f ∙ h), λ m. f ∙ mentioned-complete m)

-- a normal type that does not pass the test is convertible to one that does not mention the variable, and only then
pub mentions-avoidable : (b : Truth) (i : ℕ) (t : Ty) → b ≡ is_first (least_ty i t) → (ctx : List Kind) (k : Kind) → Normal ctx t k → ((IsTrue b → ⊥) ↔ ((s : Ty) × Conv ctx t s k × (Mentions i s → ⊥)))
mentions-avoidable b i t e ctx k n =
    let f = mentions-free b i t e in
    let p = mentions_by_normal_form ctx t k t i (n, c_refl (normal-kind n)) in
    (λ h. p.1 (λ m. h (f.1 m)), λ g h. p.0 g (f.0 h))

-- a type that does not mention the innermost variables, lowered and raised, is itself
pub lowered-raised : (by : ℕ) (n t : Ty) → n ≡ lower by t → ((i : ℕ) → i < by → Mentions i t → ⊥) → shift by 0 n ≡ t
lowered-raised by n t e h = ap (shift by 0) e ∙ raised-back by t h

-- a normal type that does not mention the innermost variables is normal when it is lowered
pub lowered-normal : (by : ℕ) (n t : Ty) → n ≡ lower by t → (inner ctx : List Kind) (k : Kind) → length inner ≡ by → Normal (inner ++ ctx) t k → ((i : ℕ) → i < by → Mentions i t → ⊥) → Normal ctx n k
lowered-normal by n t e inner ctx k l p h =
    subst (λ u. Normal ctx u k) (ap (λ m. lower m t) l ∙ sym e) (lower_gives inner ctx t k p (λ i q. h i (subst (λ m. i < m) l q))).0

-- what hereditary substitution gives is the normal form of the substitution
pub filled-normal : (k : Kind) (i : ℕ) (a b n : Ty) → n ≡ hsubst k i a b → (ctx more : List Kind) (l : Kind) → Inserts k i ctx more → Normal ctx a k → Normal more b l → NormalForm ctx (substitute_at i a b) l n
filled-normal k i a b n e ctx more l h p q = subst (λ u. NormalForm ctx (substitute_at i a b) l u) (sym e) (hsubst-gives ctx more i a b k l h p q)

-- what the normaliser gives is the normal form
pub normal-form : (ctx : List Kind) (t n : Ty) (k : Kind) → n ≡ normal ctx t → HasKind ctx t k → NormalForm ctx t k n
normal-form ctx t n k e h = subst (λ u. NormalForm ctx t k u) (sym e) (normal-gives h)
