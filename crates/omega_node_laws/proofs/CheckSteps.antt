-- Whether a closed term has a type, from the numbers of that type and of the one that is found for the term.
-- Main results: checks, fails, holds.
use Rattle.std.proofs.Common.{◌≡◌, ℕ, ◌<◌, [], Option, Some, None, true, false, length, sym, ap, ap₂, ◌∙◌, subst}
use Rattle.omega_kinds.specs.Kind.{Kind}
use Rattle.omega_types.specs.Ty.{Ty}
use Rattle.omega_terms.specs.Term.{Term}
use Rattle.omega_terms.specs.Typing.{HasType}
use Rattle.type_store.specs.Trees.{at}
use Rattle.type_store.proofs.TreeLaws.{begins-at}
use Rattle.omega_node_laws.specs.Found.{normal_at, synth_in}
use Rattle.omega_node_laws.specs.Held.{Held}
use Rattle.omega_node_laws.specs.NodeTypes.{HoldsNodeTypes}
use Rattle.omega_node_laws.specs.SameTy.{same_ty}
use Rattle.omega_node_laws.specs.Scope.{Scope, types_of, Finds, Synthesises}
use Rattle.omega_node_laws.proofs.BinderSteps.{no-number}
use Rattle.omega_node_laws.proofs.CodeSteps.{below-grows, find-in, is-some}
use Rattle.omega_node_laws.proofs.Exact.{unkinded, untyped, differs, typed}
use Rattle.omega_node_laws.proofs.NodesHeld.{closed-nodes}
use Rattle.omega_node_laws.proofs.ScopeSteps.{type-some}

nothing-is : (n : Ty) → None ≡ Some n → ⊥
nothing-is n p = cc

module _ (z a : Scope) (e : Term) (t : Ty) (o : Option ℕ) (ks : z.kinds ≡ []) (vs : types_of z ≡ []) (w : Finds z a o (normal_at z.kinds t Kind.Star)) where
  -- the type has not kind *
  pub no-wanted : ((n : ℕ) → o ≡ Some n → ⊥) → HasType [] [] e t → ⊥
  no-wanted f =
      unkinded e t None nothing-is (sym (ap (λ k. normal_at k t Kind.Star) (sym ks) ∙ no-number a.types o (normal_at z.kinds t Kind.Star) f w.is_number))

  module _ (b : Scope) (p : Option ℕ) (s : Synthesises a b a.kinds (types_of a) e p) where
    found : synth_in a.kinds (types_of a) e ≡ synth_in [] [] e
    found = ap₂ (λ k v. synth_in k v e) (w.grows.same_kinds ∙ ks) (w.grows.same_types ∙ vs)

    -- the term has no type
    pub no-found : ((n : ℕ) → p ≡ Some n → ⊥) → HasType [] [] e t → ⊥
    no-found f = untyped e t None nothing-is (sym (sym found ∙ no-number b.types p (synth_in a.kinds (types_of a) e) f s.is_number))

    module _ (n m : ℕ) (on : o ≡ Some n) (pm : p ≡ Some m) where
      below : n < length a.types
      below = is-some a.types o n on (find-in o w)

      -- the number of the type that is wanted is one of the list
      pub wanted-below : n < length b.types
      wanted-below = below-grows n s.grows below

      wanted-is : Some (at b.types n) ≡ normal_at [] t Kind.Star
      wanted-is =
          ap Some (begins-at a.types b.types n s.grows.begins below) ∙
          (sym (type-some a.types o (normal_at z.kinds t Kind.Star) n w.is_number on) ∙ ap (λ k. normal_at k t Kind.Star) ks)

      found-is : Some (at b.types m) ≡ synth_in [] [] e
      found-is = sym (type-some b.types p (synth_in a.kinds (types_of a) e) m s.is_number pm) ∙ found

      -- a term whose type is the one that is wanted has it
      pub checks : same_ty (at b.types m) (at b.types n) ≡ true → HasType [] [] e t
      checks = typed e t (at b.types m) (at b.types n) wanted-is found-is

      -- a term whose type is another one has not the type that is wanted
      pub fails : same_ty (at b.types m) (at b.types n) ≡ false → HasType [] [] e t → ⊥
      fails = differs e t (at b.types m) (at b.types n) wanted-is found-is

      -- where a term has the type that is wanted, the list has the types of all its nodes
      pub holds : HasType [] [] e t → HoldsNodeTypes b.types [] [] e
      holds h =
          closed-nodes b.types e t h (subst (λ v. Held b.types [] v e) (w.grows.same_types ∙ vs)
          (subst (λ k. Held b.types k (types_of a) e) (w.grows.same_kinds ∙ ks) (s.held m pm)))
