-- What it says of the parts that a type was found.
-- Main results: normal_at-yes, call-yes, pack-yes, lowered-yes, case-yes, roll-yes.
use Rattle.std.proofs.Common.{◌≡◌, ℕ, zero, suc, List, [], ◌∷◌, Option, Some, None, Bool as Truth, true, false, ◌&&◌, if◌then◌else◌, slice_get, refl, sym, ap}
use Rattle.std.proofs.Common.{◌∙◌, subst}
use Rattle.std.proofs.lemmas.Bool.{and_parts}
use Rattle.std.proofs.lemmas.Option.{same_Some}
use Rattle.std.specs.Option.{option_map}
use Rattle.std.specs.Ordering.{is_eq}
use Rattle.omega_kinds.specs.Kind.{Kind, kind_eq}
use Rattle.omega_kinds.specs.LabelOrder.{label_cmp}
use Rattle.omega_kinds.specs.declared.label.Label.{Label}
use Rattle.omega_kinds.proofs.LabelLaws.{label-yes, label-self}
use Rattle.omega_types.specs.Ty.{Ty, Row}
use Rattle.omega_types.specs.KindIn.{kind_in}
use Rattle.omega_types.specs.Kinding.{HasKind}
use Rattle.omega_types.specs.Mentions.{lower}
use Rattle.omega_types.specs.Normaliser.{normal, hsubst}
use Rattle.omega_types.specs.Substitution.{rename}
use Rattle.omega_types.proofs.KindsFound.{kind_in-sound, kind_in-complete}
use Rattle.omega_types.proofs.Single.{shift-suc}
use Rattle.type_normal.specs.Mentioned.{is_mentioned}
use Rattle.omega_terms.specs.declared.op.Op.{Op}
use Rattle.omega_terms.specs.Typing.{At, HasPart, result_type}
use Rattle.type_store.specs.Inner.ShapeLaws.{kind_eq-yes, kind_eq-self, no}
use Rattle.type_store.proofs.LowerSteps.{raised-lowered}
use Rattle.omega_node_laws.specs.Found.{and_then, if_kind, normal_at, put_normal, called, call_type, let_type, instantiated, inst_type, part_at, part_of}
use Rattle.omega_node_laws.specs.Found.{get_type, if_same, packed, pack_type, lowered, of_package, if_type, op_type, fix_type, injected, inj_type, if_sum}
use Rattle.omega_node_laws.specs.Found.{case_type, is_found, unfolded, rolled, roll_type, unrolled, unroll_type, more_type}
use Rattle.omega_node_laws.specs.SameTy.{same_ty}
use Rattle.omega_node_laws.proofs.Trees.{same_ty-yes}

-- none is no value
pub none-some : {A B : Type 0} {x : A} → None ≡ Some x → B
none-some {x = x} e = absurd (let f : None ≡ Some x → ⊥ = λ p. cc in f e)

-- an option that is given on a condition has a value only if the condition holds
pub if-yes : {A : Type 0} (b : Truth) (o : Option A) (y : A) → (if b then o else None) ≡ Some y → (b ≡ true) × (o ≡ Some y)
if-yes true o y e = (refl, e)
if-yes false o y e = none-some e

-- one step after another finds a type only if the first step finds one, of which the second finds it
pub and_then-yes : (o : Option Ty) (f : Ty → Option Ty) (t : Ty) → and_then o f ≡ Some t → (n : Ty) × (o ≡ Some n) × (f n ≡ Some t)
and_then-yes None f t e = none-some e
and_then-yes (Some n) f t e = (n, refl, e)

-- a function of an option has a value only if the option has one, of which it is the function
pub map-yes : {A B : Type 0} (f : A → B) (o : Option A) (t : B) → option_map f o ≡ Some t → (u : A) × (o ≡ Some u) × (f u ≡ t)
map-yes f None t e = none-some e
map-yes f (Some u) t e = (u, refl, same_Some _ _ e)

if_kind-yes : (o : Option Kind) (k : Kind) (m n : Ty) → if_kind o k m ≡ Some n → (o ≡ Some k) × (m ≡ n)
if_kind-yes None k m n e = none-some e
if_kind-yes (Some j) k m n e =
    let p = if-yes (kind_eq j k) (Some m) n e in (ap Some (kind_eq-yes j k p.0), same_Some _ _ p.1)

-- a normal form at a kind is found only of a type of that kind
pub normal_at-yes : (ctx : List Kind) (t : Ty) (k : Kind) (n : Ty) → normal_at ctx t k ≡ Some n → HasKind ctx t k × (normal ctx t ≡ n)
normal_at-yes ctx t k n e = let p = if_kind-yes (kind_in ctx t) k (normal ctx t) n e in (kind_in-sound ctx t k p.0, p.1)

-- at its kind the normal form of a type is found
pub normal_at-of : {ctx : List Kind} {t : Ty} {k : Kind} → HasKind ctx t k → normal_at ctx t k ≡ Some (normal ctx t)
normal_at-of {ctx} {t} {k} h =
    ap (λ o. if_kind o k (normal ctx t)) (kind_in-complete h) ∙ ap (λ b. if b then Some (normal ctx t) else None) (kind_eq-self k)

put_normal-yes : (k : Kind) (b : Ty) (o : Option Ty) (t : Ty) → put_normal k b o ≡ Some t → (n : Ty) × (o ≡ Some n) × (hsubst k zero n b ≡ t)
put_normal-yes k b None t e = none-some e
put_normal-yes k b (Some n) t e = (n, refl, same_Some _ _ e)

pub filled-yes : (ctx : List Kind) (k : Kind) (b t v : Ty) → put_normal k b (normal_at ctx t k) ≡ Some v
    → HasKind ctx t k × (hsubst k zero (normal ctx t) b ≡ v)
filled-yes ctx k b t v e =
    let p = put_normal-yes k b (normal_at ctx t k) v e in
    let q = normal_at-yes ctx t k p.0 p.1 in
    (q.0, ap (λ n. hsubst k zero n b) q.1 ∙ p.2)

called-yes : (f a u : Ty) → called f a ≡ Some u → f ≡ Ty.Arrow a u
called-yes (Ty.Arrow t w) a u e =
    let p = if-yes (same_ty t a) (Some w) u e in
    (λ i. Ty.Arrow (same_ty-yes t a p.0 i) (same_Some _ _ p.1 i))
called-yes _ a u e = none-some e

-- a call has a type only if the operator has the type of a function from the type of the argument to it
pub call-yes : (o p : Option Ty) (u : Ty) → call_type o p ≡ Some u → (a : Ty) × (o ≡ Some (Ty.Arrow a u)) × (p ≡ Some a)
call-yes None p u e = none-some e
call-yes (Some f) None u e = none-some e
call-yes (Some f) (Some a) u e = (a, ap Some (called-yes f a u e), refl)

-- what a function that is called at once was typed by: an argument of exactly the type that is written, or a call
pub let-cases : {A : Type 0} (n : Option Ty) (t : Ty) (body : Ty → Option Ty) (o : Option Ty) (r : Ty) → let_type n t body o ≡ Some r
    → ((u : Ty) → o ≡ Some u → t ≡ u → body u ≡ Some r → A)
    → ((u : Ty) → o ≡ Some u → call_type (and_then n (λ m. option_map (Ty.Arrow m) (body m))) (Some u) ≡ Some r → A) → A
let-cases n t body None r e f g = none-some e
let-cases {A = A} n t body (Some u) r e f g = split (same_ty t u) refl e
  where
    split : (b : Truth) → same_ty t u ≡ b → (if b then body u else call_type (and_then n (λ m. option_map (Ty.Arrow m) (body m))) (Some u)) ≡ Some r → A
    split true s h = f u refl (same_ty-yes t u s) h
    split false s h = g u refl h

instantiated-yes : (ctx : List Kind) (s t v : Ty) → instantiated ctx s t ≡ Some v
    → (k : Kind) × (b : Ty) × (s ≡ Ty.All k b) × HasKind ctx t k × (hsubst k zero (normal ctx t) b ≡ v)
instantiated-yes ctx (Ty.All k b) t v e = let p = filled-yes ctx k b t v e in (k, b, refl, p.0, p.1)
instantiated-yes ctx _ t v e = none-some e

-- an instance has a type only if the term has a universal type over the kind of the argument, which is put into its body
pub inst-yes : (ctx : List Kind) (o : Option Ty) (t v : Ty) → inst_type ctx o t ≡ Some v
    → (k : Kind) × (b : Ty) × (o ≡ Some (Ty.All k b)) × HasKind ctx t k × (hsubst k zero (normal ctx t) b ≡ v)
inst-yes ctx None t v e = none-some e
inst-yes ctx (Some s) t v e = let p = instantiated-yes ctx s t v e in (p.0, p.1, ap Some p.2, p.3, p.4)

part_at-yes : (r : Row) (l : Label) (t : Ty) → part_at r l ≡ Some t → HasPart r l t
part_at-yes Row.End l t e = none-some e
part_at-yes (Row.More m u r) l t e = go (part_at-yes r l t) (is_eq (label_cmp m l)) refl e
  where
    go : (part_at r l ≡ Some t → HasPart r l t) → (b : Truth) → is_eq (label_cmp m l) ≡ b → (if b then Some u else part_at r l) ≡ Some t
        → HasPart (Row.More m u r) l t
    go rest true p q = subst (λ k. HasPart (Row.More m u r) k t) (label-yes m l p) (subst (λ w. HasPart (Row.More m u r) m w) (same_Some _ _ q) HasPart.here)
    go rest false p q = HasPart.there (λ d. no (sym p ∙ (ap (λ k. is_eq (label_cmp m k)) d ∙ label-self m))) (rest q)

-- the type that a row has at a label is found there
pub part_at-of : {r : Row} {l : Label} {t : Ty} → HasPart r l t → part_at r l ≡ Some t
part_at-of (HasPart.here {l = l} {t = t} {r = r}) = ap (λ b. if b then Some t else part_at r l) (label-self l)
part_at-of (HasPart.there {l = l} {m = m} {t = t} {u = u} {r = r} d p) = go (part_at-of p) (is_eq (label_cmp m l)) refl
  where
    go : part_at r l ≡ Some t → (b : Truth) → is_eq (label_cmp m l) ≡ b → (if b then Some u else part_at r l) ≡ Some t
    go rest true q = absurd (d (sym (label-yes m l q)))
    go rest false q = rest

part_of-yes : (s : Ty) (l : Label) (t : Ty) → part_of s l ≡ Some t → (r : Row) × (s ≡ Ty.Fields r) × HasPart r l t
part_of-yes (Ty.Fields r) l t e = (r, refl, part_at-yes r l t e)
part_of-yes _ l t e = none-some e

-- a field has a type only if the term has the type of a record with it at the label
pub get-yes : (o : Option Ty) (l : Label) (t : Ty) → get_type o l ≡ Some t → (r : Row) × (o ≡ Some (Ty.Fields r)) × HasPart r l t
get-yes None l t e = none-some e
get-yes (Some s) l t e = let p = part_of-yes s l t e in (p.0, ap Some p.1, p.2)

if_same-yes : (n : Ty) (o p : Option Ty) (v : Ty) → if_same n o p ≡ Some v → (s : Ty) × (o ≡ Some s) × (p ≡ Some s) × (n ≡ v)
if_same-yes n None p v e = none-some e
if_same-yes n (Some s) None v e = none-some e
if_same-yes n (Some s) (Some t) v e =
    let q = if-yes (same_ty s t) (Some n) v e in (s, refl, ap Some (sym (same_ty-yes s t q.0)), same_Some _ _ q.1)

packed-yes : (ctx : List Kind) (t n : Ty) (o : Option Ty) (v : Ty) → packed ctx t n o ≡ Some v
    → (k : Kind) × (b : Ty) × (n ≡ Ty.Ex k b) × HasKind ctx t k × (o ≡ Some (hsubst k zero (normal ctx t) b)) × (n ≡ v)
packed-yes ctx t (Ty.Ex k b) o v e =
    let p = if_same-yes (Ty.Ex k b) (put_normal k b (normal_at ctx t k)) o v e in
    let q = filled-yes ctx k b t p.0 p.1 in
    (k, b, refl, q.0, p.2 ∙ ap Some (sym q.1), p.3)
packed-yes ctx t _ o v e = none-some e

-- a package has a type only if its target is an existential type, of which the term has the body with the hidden type put in
pub pack-yes : (ctx : List Kind) (t : Ty) (o p : Option Ty) (v : Ty) → pack_type ctx t o p ≡ Some v
    → (k : Kind) × (b : Ty) × (o ≡ Some (Ty.Ex k b)) × HasKind ctx t k × (p ≡ Some (hsubst k zero (normal ctx t) b)) × (Ty.Ex k b ≡ v)
pack-yes ctx t None p v e = none-some e
pack-yes ctx t (Some n) p v e =
    let q = packed-yes ctx t n p v e in (q.0, q.1, ap Some q.2, q.3, q.4, sym q.2 ∙ q.5)

-- what is found of the parts of an existential type is found only of an existential type
pub package-yes : (s : Ty) (f : Kind → Ty → Option Ty) (t : Ty) → of_package s f ≡ Some t → (k : Kind) × (b : Ty) × (s ≡ Ty.Ex k b) × (f k b ≡ Some t)
package-yes (Ty.Ex k b) f t e = (k, b, refl, e)
package-yes _ f t e = none-some e

unmentioned : (s t : Ty) (b : Truth) → is_mentioned zero s ≡ b → (if b then None else Some (lower 1 s)) ≡ Some t → rename suc t ≡ s
unmentioned s t true p e = none-some e
unmentioned s t false p e =
    ap (rename suc) (sym (same_Some _ _ e)) ∙ (sym (shift-suc (lower 1 s)) ∙ raised-lowered s p)

-- a type is found outside of a binder only if it is found raised inside
pub lowered-yes : (o : Option Ty) (t : Ty) → lowered o ≡ Some t → o ≡ Some (rename suc t)
lowered-yes None t e = none-some e
lowered-yes (Some s) t e = ap Some (sym (unmentioned s t (is_mentioned zero s) refl e))

-- a choice has a type only if the condition has the type of truth values and both branches have it
pub if_type-yes : (o p q : Option Ty) (t : Ty) → if_type o p q ≡ Some t → (o ≡ Some Ty.Bool) × (p ≡ Some t) × (q ≡ Some t)
if_type-yes None p q t e = none-some e
if_type-yes (Some s) None q t e = none-some e
if_type-yes (Some s) (Some u) None t e = none-some e
if_type-yes (Some s) (Some u) (Some v) t e =
    let y = if-yes (same_ty s Ty.Bool && same_ty u v) (Some u) t e in
    let z = and_parts (same_ty s Ty.Bool) (same_ty u v) y.0 in
    (ap Some (same_ty-yes s Ty.Bool z.0), y.1, ap Some (sym (same_ty-yes u v z.1)) ∙ y.1)

-- a computation has a type only if both sides are integers, and then it is the type of the results
pub op-yes : (o : Op) (p q : Option Ty) (t : Ty) → op_type o p q ≡ Some t → (p ≡ Some Ty.Int) × (q ≡ Some Ty.Int) × (result_type o ≡ t)
op-yes o None q t e = none-some e
op-yes o (Some s) None t e = none-some e
op-yes o (Some s) (Some u) t e =
    let y = if-yes (same_ty s Ty.Int && same_ty u Ty.Int) (Some (result_type o)) t e in
    let z = and_parts (same_ty s Ty.Int) (same_ty u Ty.Int) y.0 in
    (ap Some (same_ty-yes s Ty.Int z.0), ap Some (same_ty-yes u Ty.Int z.1), same_Some _ _ y.1)

-- a function that calls itself has a type only if its body has the result type that is written
pub fix-yes : (n m : Ty) (o : Option Ty) (t : Ty) → fix_type n m o ≡ Some t → (o ≡ Some m) × (Ty.Arrow n m ≡ t)
fix-yes n m None t e = none-some e
fix-yes n m (Some s) t e =
    let y = if-yes (same_ty m s) (Some (Ty.Arrow n m)) t e in (ap Some (sym (same_ty-yes m s y.0)), same_Some _ _ y.1)

injected-yes : (l : Label) (n : Ty) (o : Option Ty) (v : Ty) → injected l n o ≡ Some v
    → (r : Row) × (u : Ty) × (n ≡ Ty.Sum r) × HasPart r l u × (o ≡ Some u) × (n ≡ v)
injected-yes l (Ty.Sum r) o v e =
    let p = if_same-yes (Ty.Sum r) (part_at r l) o v e in (r, p.0, refl, part_at-yes r l p.0 p.1, p.2, p.3)
injected-yes l _ o v e = none-some e

-- an injection has a type only if its target is a sum that has the type of the term at the label
pub inj-yes : (l : Label) (o p : Option Ty) (v : Ty) → inj_type l o p ≡ Some v
    → (r : Row) × (u : Ty) × (o ≡ Some (Ty.Sum r)) × HasPart r l u × (p ≡ Some u) × (Ty.Sum r ≡ v)
inj-yes l None p v e = none-some e
inj-yes l (Some n) p v e =
    let q = injected-yes l n p v e in (q.0, q.1, ap Some q.2, q.3, q.4, sym q.2 ∙ q.5)

if_sum-yes : (s n : Ty) (f : Row → Truth) (v : Ty) → if_sum s n f ≡ Some v → (r : Row) × (s ≡ Ty.Sum r) × (n ≡ v) × (f r ≡ true)
if_sum-yes (Ty.Sum r) n f v e = let p = if-yes (f r) (Some n) v e in (r, refl, same_Some _ _ p.1, p.0)
if_sum-yes _ n f v e = none-some e

-- a case has a type only if the term has the type of a sum and the branches pass
pub case-yes : (o p : Option Ty) (f : Row → Ty → Truth) (v : Ty) → case_type o p f ≡ Some v → (r : Row) × (o ≡ Some (Ty.Sum r)) × (p ≡ Some v) × (f r v ≡ true)
case-yes None p f v e = none-some e
case-yes (Some s) None f v e = none-some e
case-yes (Some s) (Some n) f v e =
    let q = if_sum-yes s n (λ r. f r n) v e in
    (q.0, ap Some q.1, ap Some q.2, subst (λ t. f q.0 t ≡ true) q.2 q.3)

-- the test for a type passes only if just this type was found
pub is_found-yes : (n : Ty) (o : Option Ty) → is_found n o ≡ true → o ≡ Some n
is_found-yes n None e = no e
is_found-yes n (Some s) e = ap Some (sym (same_ty-yes n s e))

rolled-yes : (n : Ty) (o : Option Ty) (v : Ty) → rolled n o ≡ Some v → (b : Ty) × (n ≡ Ty.Mu b) × (o ≡ Some (unfolded b)) × (n ≡ v)
rolled-yes (Ty.Mu b) o v e =
    let p = if_same-yes (Ty.Mu b) (Some (unfolded b)) o v e in (b, refl, p.2 ∙ sym p.1, p.3)
rolled-yes _ o v e = none-some e

-- a rolled term has a type only if its target is a recursive type, whose unfolding the term has
pub roll-yes : (o p : Option Ty) (v : Ty) → roll_type o p ≡ Some v → (b : Ty) × (o ≡ Some (Ty.Mu b)) × (p ≡ Some (unfolded b)) × (Ty.Mu b ≡ v)
roll-yes None p v e = none-some e
roll-yes (Some n) p v e = let q = rolled-yes n p v e in (q.0, ap Some q.1, q.2, sym q.1 ∙ q.3)

unrolled-yes : (s v : Ty) → unrolled s ≡ Some v → (b : Ty) × (s ≡ Ty.Mu b) × (unfolded b ≡ v)
unrolled-yes (Ty.Mu b) v e = (b, refl, same_Some _ _ e)
unrolled-yes _ v e = none-some e

-- an unrolled term has a type only if the term has a recursive type, and then it is its unfolding
pub unroll-yes : (o : Option Ty) (v : Ty) → unroll_type o ≡ Some v → (b : Ty) × (o ≡ Some (Ty.Mu b)) × (unfolded b ≡ v)
unroll-yes None v e = none-some e
unroll-yes (Some s) v e = let p = unrolled-yes s v e in (p.0, ap Some p.1, p.2)

-- one more field before a row has a type only if the field and the row have theirs
pub more-yes : (l : Label) (o : Option Ty) (p : Option Row) (r : Row) → more_type l o p ≡ Some r
    → (t : Ty) × (q : Row) × (o ≡ Some t) × (p ≡ Some q) × (Row.More l t q ≡ r)
more-yes l None p r e = none-some e
more-yes l (Some t) None r e = none-some e
more-yes l (Some t) (Some q) r e = (t, q, refl, refl, same_Some _ _ e)

-- a type that is found at an index is that of the variable
pub get-at : (vars : List Ty) (n : ℕ) (t : Ty) → slice_get vars n ≡ Some t → At vars n t
get-at [] n t e = none-some e
get-at (u ∷ vars) zero t e = subst (λ w. At (u ∷ vars) zero w) (same_Some _ _ e) At.here
get-at (u ∷ vars) (suc n) t e = At.there (get-at vars n t e)
