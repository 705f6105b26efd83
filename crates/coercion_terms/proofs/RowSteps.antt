-- The fields of a structure coerced one after the other, and the types of the terms.
-- Main results: fields-typed, functor-typed.
use Rattle.std.proofs.Common.{◌≡◌, ℕ, zero, suc, ◌<◌, List, [], ◌∷◌, length, get_or, take, map, refl, sym, ap, ◌∙◌, subst, arith}
use Rattle.omega_kinds.specs.Kind.{Kind}
use Rattle.omega_kinds.specs.declared.label.Label.{Label}
use Rattle.omega_kinds.specs.declared.effect.Effect.{Effect}
use Rattle.omega_types.specs.Ty.{Ty}
use Rattle.omega_types.specs.Kinding.{HasKind}
use Rattle.omega_types.specs.Binders.{all_over}
use Rattle.omega_types.specs.Fields.{Rises, MayFollow}
use Rattle.omega_terms.specs.Term.{Term, TermRow}
use Rattle.omega_terms.specs.Fields.{TermPairs, term_row}
use Rattle.omega_terms.specs.Typing.{HasType}
use Rattle.omega_terms.specs.CoercionRows.{of_field}
use Rattle.omega_terms.specs.Coercions.{result_label, coerced, same_part, meta_part, fields_part, functor_part}
use Rattle.omega_terms.proofs.CoercionRows.{same_part_typed, meta_part_typed, fields_part_typed, functor_part_typed}
use Rattle.coercion_terms.specs.Inner.Rows.{HasSameType, HasMetaType, HasFieldsType, HasFunctorType}

-- each field of a list, selected from the argument and coerced
abbrev pub coerced_pairs : TermPairs → TermPairs
coerced_pairs = map (λ x. (x.0, Term.Call x.1 (Term.Get (Term.Var zero) x.0)))

-- the fields of a structure, coerced one by one, are the coerced row
pub row-coerced : (xs : TermPairs) → term_row (coerced_pairs xs) ≡ coerced (term_row xs)
row-coerced [] = refl
row-coerced (x ∷ xs) = ap (TermRow.More x.0 (Term.Call x.1 (Term.Get (Term.Var zero) x.0))) (row-coerced xs)

pub coerced_follows-at : (xs : TermPairs) (i : ℕ) (d : Label × Term) → i < length xs → Rises xs → MayFollow (coerced_pairs (take i xs)) (get_or xs i d).0
coerced_follows-at [] i d p r = absurd (omega arith)
coerced_follows-at (x ∷ xs) zero d p r = tt
coerced_follows-at (x ∷ []) (suc i) d p r = absurd (omega arith)
coerced_follows-at (x ∷ y ∷ xs) (suc zero) d p r = r.0
coerced_follows-at (x ∷ y ∷ xs) (suc (suc i)) d p r = coerced_follows-at (y ∷ xs) (suc i) d (omega arith) r.1

-- the label at a place may follow the fields before it
pub coerced_follows : (xs done : TermPairs) (i : ℕ) (x : Label × Term) (l : Label) → done ≡ coerced_pairs (take i xs) → l ≡ x.0 → x ≡ get_or xs i x → i < length xs → Rises xs → MayFollow done l
coerced_follows xs done i x l ed el ex lt r =
    subst (λ ys. MayFollow ys l) (sym ed) (subst (λ m. MayFollow (coerced_pairs (take i xs)) m) (sym (el ∙ ap (λ (y : Label × Term). y.0) ex)) (coerced_follows-at xs i x lt r))

pub ruleset row_steps = (row-coerced, coerced_follows-at)

-- the identity coercion is typed
pub same-typed : (from : Ty) (e : Term) → e ≡ same_part from → HasSameType from e
same-typed from e eq ctx k = subst (λ u. HasType ctx [] u (Ty.Arrow from from)) (sym eq) (same_part_typed ctx from k)

-- the coercion of a signature part is typed
pub meta-typed : (from to : Ty) (e : Term) → e ≡ meta_part from to → HasMetaType from to e
meta-typed from to e eq ctx k j = subst (λ u. HasType ctx [] u (Ty.Arrow from (of_field Label.Sig (Ty.Arrow to to)))) (sym eq) (meta_part_typed ctx from to k j)

-- the coercion of a structure is typed
pub fields-typed : (from : Ty) (parts : TermRow) (e : Term) → e ≡ fields_part from parts → HasFieldsType from parts e
fields-typed from parts e eq ctx row other ef k ps =
    subst (λ u. HasType ctx [] e (Ty.Arrow u (Ty.Fields other))) (sym ef) (subst (λ u. HasType ctx [] u (Ty.Arrow (Ty.Fields row) (Ty.Fields other))) (sym (eq ∙ ap (λ u. fields_part u parts) ef)) (fields_part_typed ctx row other parts (subst (λ u. HasKind ctx u Kind.Star) ef k) ps))

-- the coercion of a functor is typed
pub functor-typed : (from : Ty) (left right : Effect) (js : List Kind) (param : Ty) (ts : List Ty) (f g e : Term) → e ≡ functor_part from left right js param ts f g → HasFunctorType from left right js param ts f g e
functor-typed from left right js param ts f g e eq ctx ks a r result ef kf kp o hf hg =
    let typed = functor_part_typed ctx ks js left right a r param result ts f g (subst (λ u. HasKind ctx u Kind.Star) ef kf) kp o hf hg in
    let to : Ty = all_over js (Ty.Arrow param (of_field (result_label right) result)) in
    let at = subst (λ u. HasType ctx [] (functor_part u left right js param ts f g) (Ty.Arrow u to)) (sym ef) typed in
    subst (λ u. HasType ctx [] u (Ty.Arrow from to)) (sym eq) at
