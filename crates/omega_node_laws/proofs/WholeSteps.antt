-- Terms without parts, records and the branches of a case, from their parts in a row.
-- Main results: leaf-done, record-done, branch-more.
use Rattle.std.proofs.Common.{◌≡◌, ℕ, ◌∷◌, Some, None, true, ◌&&◌, if◌then◌else◌, refl, sym, ap, ap₂, ◌∙◌, subst}
use Rattle.std.proofs.lemmas.Bool.{and_from}
use Rattle.std.specs.Option.{option_map}
use Rattle.std.specs.Ordering.{is_eq}
use Rattle.omega_kinds.specs.LabelOrder.{label_cmp}
use Rattle.omega_kinds.specs.declared.label.Label.{Label}
use Rattle.omega_kinds.proofs.LabelLaws.{label-self}
use Rattle.omega_types.specs.Fields.{Rises}
use Rattle.omega_types.specs.Ty.{Ty, Row}
use Rattle.omega_terms.specs.Fields.{TermPairs, term_row}
use Rattle.omega_terms.specs.Term.{Term, TermRow}
use Rattle.type_store.specs.Numbers.{NumberOf}
use Rattle.type_store.specs.Shape.{Parts}
use Rattle.type_store.specs.Trees.{at, row_at}
use Rattle.omega_node_laws.specs.Found.{is_found, more_type, synth_in, synth_row, synth_branches}
use Rattle.omega_node_laws.specs.SameTy.{same_ty}
use Rattle.omega_node_laws.proofs.FieldLoop.{rises-differ}
use Rattle.omega_node_laws.proofs.Trees.{same_ty-self}
use Rattle.omega_node_laws.specs.Held.{Has, Held, HeldFields, HeldBranches}
use Rattle.omega_node_laws.specs.Scope.{Scope, types_of, Grows, Makes, Synthesises, FindsBranches}
use Rattle.omega_node_laws.specs.StepLaws.{IsLeaf, FindsFields}
use Rattle.omega_node_laws.proofs.HeldMore.{held-more, fields-more}
use Rattle.omega_node_laws.proofs.ScopeSteps.{grows-itself, grows-then, type-some}
use Rattle.omega_node_laws.proofs.SynthSteps.{moved, has-number, with-parts}

-- ---- leaves

-- the type of a term without parts
pub leaf-done : {z c : Scope} (e : Term) (t : Ty) (n : ℕ) → IsLeaf e → synth_in z.kinds (types_of z) e ≡ Some t → Makes z c n t
    → Synthesises z c z.kinds (types_of z) e (Some n)
leaf-done {z} {c} e t n l s m =
    let number = subst (NumberOf c.types (Some n)) (sym s) m.holds in
    record { grows = m.grows; is_number = number; held = (λ k p. leaf l (has-number c.types (Some n) (synth_in z.kinds (types_of z) e) n number refl)) }
  where
    leaf : {f : Term} → IsLeaf f → Has c.types (synth_in z.kinds (types_of z) f) → Held c.types z.kinds (types_of z) f
    leaf IsLeaf.var h = h
    leaf IsLeaf.int h = h
    leaf IsLeaf.bool h = h
    leaf IsLeaf.text h = h

-- ---- records

record AllFound (a c : Scope) (xs : TermPairs) (parts : Parts) : Type 0 where
  grows : Grows a c
  found : synth_row a.kinds (types_of a) (term_row xs) ≡ Some (row_at c.types parts)
  held : HeldFields c.types a.kinds (types_of a) (term_row xs)

all-found : {a c : Scope} {xs : TermPairs} {parts : Parts} → FindsFields a c xs parts → AllFound a c xs parts
all-found {a} FindsFields.none = record { grows = grows-itself a; found = refl; held = tt }
all-found (FindsFields.more {a} {b} {c} {l} {e} {n} {xs} {parts} s r) =
    let q = all-found r in
    let h = moved (grows-itself a) s q.grows in
    record {
      grows = grows-then s.grows q.grows;
      found = ap₂ (more_type l) (type-some c.types (Some n) (synth_in a.kinds (types_of a) e) n h.is_number refl)
          (ap₂ (λ k v. synth_row k v (term_row xs)) (sym s.grows.same_kinds) (sym s.grows.same_types) ∙ q.found);
      held = (
        h.held n refl,
        subst (λ k. HeldFields c.types k (types_of a) (term_row xs)) s.grows.same_kinds
            (subst (λ v. HeldFields c.types b.kinds v (term_row xs)) s.grows.same_types q.held),
      );
    }

-- the type of a record, from those of its fields
pub record-done : {z y c : Scope} {xs : TermPairs} {parts : Parts} {n : ℕ} → FindsFields z y xs parts → Rises xs
    → Makes y c n (Ty.Fields (row_at y.types parts)) → Synthesises z c z.kinds (types_of z) (Term.Fields (term_row xs)) (Some n)
record-done {z} {y} {c} {xs} {parts} {n} f r m =
    let q = all-found f in
    let row = synth_row z.kinds (types_of z) (term_row xs) in
    let is : synth_in z.kinds (types_of z) (Term.Fields (term_row xs)) ≡ Some (Ty.Fields (row_at y.types parts)) =
    ap (λ b. if b then option_map Ty.Fields row else None) (rises-differ xs r) ∙ ap (option_map Ty.Fields) q.found in
    let number : NumberOf c.types (Some n) (synth_in z.kinds (types_of z) (Term.Fields (term_row xs))) = subst (NumberOf c.types (Some n)) (sym is) m.holds in
    record {
      grows = grows-then q.grows m.grows;
      is_number = number;
      held = with-parts _ number (λ t j. fields-more y.types c.types m.grows.begins z.kinds (types_of z) (term_row xs) q.held);
    }

-- ---- branches

-- the empty list of branches has the labels of the empty sum
pub no-branch : (z : Scope) (t : Ty) → FindsBranches z z TermRow.End Row.End t true
no-branch z t = record { grows = grows-itself z; value = refl; held = (λ p. tt) }

-- one more branch has the next label of the sum, and the type
pub branch-more : (a b c : Scope) (l : Label) (e : Term) (rest : TermRow) (u t : Ty) (r : Row) (n : ℕ) → Synthesises a b a.kinds (u ∷ types_of a) e (Some n)
    → at b.types n ≡ t → FindsBranches b c rest r t true → FindsBranches a c (TermRow.More l e rest) (Row.More l u r) t true
branch-more a b c l e rest u t r n s p h =
    let one = type-some b.types (Some n) (synth_in a.kinds (u ∷ types_of a) e) n s.is_number refl in
    let found = ap (is_found t) one ∙ (ap (same_ty t) p ∙ same_ty-self t) in
    let others = ap₂ (λ k v. synth_branches k v rest r t) (sym s.grows.same_kinds) (sym s.grows.same_types) ∙ sym h.value in
    record {
      grows = grows-then s.grows h.grows;
      value =
          sym (and_from (is_eq (label_cmp l l)) (is_found t (synth_in a.kinds (u ∷ types_of a) e) && synth_branches a.kinds (types_of a) rest r t)
          (label-self l)
          (and_from (is_found t (synth_in a.kinds (u ∷ types_of a) e)) (synth_branches a.kinds (types_of a) rest r t) found others));
      held = (λ q. (
        held-more b.types c.types h.grows.begins a.kinds (u ∷ types_of a) e (s.held n refl),
        subst (λ k. HeldBranches c.types k (types_of a) rest r) s.grows.same_kinds
            (subst (λ v. HeldBranches c.types b.kinds v rest r) s.grows.same_types (h.held refl)),
      ));
    }
