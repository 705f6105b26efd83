-- What the code's helpers need: kinds as options, part by part in a row, raised variables.
-- Main results: kind-is, raised-vars.
use Rattle.std.proofs.Common.{◌≡◌, suc, ◌∷◌, [], ◌++◌, List, Option, Some, None, MatchOption, map, reverse, refl, sym, ap, ◌∙◌}
use Rattle.std.proofs.lemmas.List.{reverse-append}
use Rattle.std.specs.Option.{option_map}
use Rattle.omega_kinds.specs.Kind.{Kind}
use Rattle.omega_kinds.specs.View.{kind_tree}
use Rattle.omega_kinds.specs.declared.kind.Kind.{Kind as SharedKind}
use Rattle.omega_types.specs.Ty.{Ty}
use Rattle.omega_types.specs.Index.{shift}
use Rattle.omega_types.specs.KindIn.{kind_in}
use Rattle.omega_types.specs.Kinding.{HasKind}
use Rattle.omega_types.specs.Substitution.{rename}
use Rattle.omega_types.proofs.KindsFound.{kind_in-sound, kind_in-complete}
use Rattle.omega_types.proofs.Single.{shift-suc}
use Rattle.omega_terms.specs.Typing.{shift_all}

kind-none : (o : Option Kind) → ((k : Kind) → o ≡ Some k → ⊥) → None ≡ o
kind-none None h = refl
kind-none (Some k) h = absurd (h k refl)

-- a kind that kinding gives, or none where it gives none, is what the recursion on types finds
pub kind-is : (ctx : List Kind) (t : Ty) (o : Option SharedKind) → MatchOption o ((k : Kind) → HasKind ctx t k → ⊥) (λ k. HasKind ctx t (kind_tree k))
    → option_map kind_tree o ≡ kind_in ctx t
kind-is ctx t None h = kind-none (kind_in ctx t) (λ k e. h k (kind_in-sound ctx t k e))
kind-is ctx t (Some k) h = sym (kind_in-complete h)

shift_all-append : (xs ys : List Ty) → shift_all (xs ++ ys) ≡ shift_all xs ++ shift_all ys
shift_all-append [] ys = refl
shift_all-append (x ∷ xs) ys = ap (λ zs. rename suc x ∷ zs) (shift_all-append xs ys)

-- types that are raised one by one are, in reverse order, those of the variables below one more type variable
pub raised-vars : (xs : List Ty) → reverse (map (shift 1 0) xs) ≡ shift_all (reverse xs)
raised-vars [] = refl
raised-vars (x ∷ xs) =
    reverse-append (shift 1 0 x ∷ []) (map (shift 1 0) xs) ∙
    ((λ i. raised-vars xs i ++ (shift-suc x i ∷ [])) ∙ (sym (shift_all-append (reverse xs) (x ∷ [])) ∙ ap shift_all (sym (reverse-append (x ∷ []) xs))))
