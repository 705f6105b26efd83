-- What an optional result says, where it is there and where it is not.
-- Main results: none-is, none-case, some-case.
use Rattle.std.specs.Prelude.{◌≡◌, Option, Some, None, MatchOption}
use Rattle.std.proofs.Math.Path.{refl, subst}

-- an option that is no value is none
pub none-is : {A : Type 0} (o : Option A) → ((x : A) → o ≡ Some x → ⊥) → o ≡ None
none-is None n = refl
none-is (Some x) n = absurd (n x refl)

-- of an option that is no value, the case of none holds
pub none-case : {A : Type 0} (o : Option A) (P : Type 0) (Q : A → Type 0) → ((x : A) → o ≡ Some x → ⊥) → MatchOption o P Q → P
none-case None P Q n h = h
none-case (Some x) P Q n h = absurd (n x refl)

-- of an option that is a value, the case of the value holds
pub some-case : {A : Type 0} (o : Option A) (P : Type 0) (Q : A → Type 0) (x : A) → o ≡ Some x → MatchOption o P Q → Q x
some-case o P Q x e h = subst (λ p. MatchOption p P Q) e h
