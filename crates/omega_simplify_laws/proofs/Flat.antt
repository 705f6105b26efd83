-- The flat functions, by their two forms.
-- Main results: are_parts-yes, flat.
use Rattle.std.proofs.Common.{◌≡◌, zero, refl, sym, subst, true, ◌&&◌}
use Rattle.std.proofs.lemmas.Bool.{false≢true, and_parts}
use Rattle.std.specs.Ordering.{is_eq}
use Rattle.omega_kinds.specs.declared.label.Label.{Label}
use Rattle.omega_kinds.specs.LabelOrder.{label_cmp}
use Rattle.omega_kinds.proofs.LabelLaws.{label-yes}
use Rattle.omega_types.specs.Ty.{Ty, Row}
use Rattle.omega_terms.specs.Term.{Term, TermRow}
use Rattle.omega_simplify_laws.specs.Simplified.{is_argument, is_part, are_parts, is_flat}

-- the parts of a term at the labels of a row
abbrev pub parts_of : Term → Row → TermRow
parts_of e Row.End = TermRow.End
parts_of e (Row.More l t r) = TermRow.More l (Term.Get e l) (parts_of e r)

-- the flat functions: the identity, and one that builds the record of its argument's parts
pub data Flat : Term → Type 0 where
  whole : {t : Ty} → Flat (Term.Lam t (Term.Var zero))
  parts : {r : Row} → Flat (Term.Lam (Ty.Fields r) (Term.Fields (parts_of (Term.Var zero) r)))

is_argument-yes : (e : Term) → is_argument e ≡ true → e ≡ Term.Var zero
is_argument-yes (Term.Var zero) h = refl
is_argument-yes _ h = absurd (false≢true h)

pub is_part-yes : (l : Label) (e : Term) → is_part l e ≡ true → e ≡ Term.Get (Term.Var zero) l
is_part-yes l (Term.Get e m) h =
    let p = and_parts (is_argument e) (is_eq (label_cmp l m)) h in
    let q = label-yes l m p.1 in
    λ i. Term.Get (is_argument-yes e p.0 i) (sym q i)
is_part-yes l _ h = absurd (false≢true h)

-- fields that pass the test are the parts of the argument, in order
pub are_parts-yes : (r : Row) (f : TermRow) → are_parts r f ≡ true → f ≡ parts_of (Term.Var zero) r
are_parts-yes Row.End TermRow.End h = refl
are_parts-yes (Row.More l t r) (TermRow.More m e f) h =
    let p = and_parts (is_eq (label_cmp l m) && is_part l e) (are_parts r f) h in
    let q = and_parts (is_eq (label_cmp l m)) (is_part l e) p.0 in
    let same = label-yes l m q.0 in
    let part = is_part-yes l e q.1 in
    let rest = are_parts-yes r f p.1 in
    λ i. TermRow.More (sym same i) (part i) (rest i)
are_parts-yes _ _ h = absurd (false≢true h)

-- a function that passes the test gives its argument back, or a record of all its parts
pub flat : (f : Term) → is_flat f ≡ true → Flat f
flat (Term.Lam t (Term.Var zero)) h = Flat.whole
flat (Term.Lam (Ty.Fields r) (Term.Fields f)) h = subst (λ x. Flat (Term.Lam (Ty.Fields r) (Term.Fields x))) (sym (are_parts-yes r f h)) Flat.parts
flat _ h = absurd (false≢true h)
