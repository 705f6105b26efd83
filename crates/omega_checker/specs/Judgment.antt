-- That a closed term has a closed type, as a pair of the two.
use Rattle.std.specs.Prelude.{[], refl}
use Rattle.std.specs.Coded.{Coded, code_by, coded×}
use Rattle.omega_types.specs.Ty.{Ty}
use Rattle.omega_types.specs.Inner.Code.{ty_code}
use Rattle.omega_terms.specs.Term.{Term}
use Rattle.omega_terms.specs.Inner.Code.{term_code}
use Rattle.omega_terms.specs.Typing.{HasType}

pub record Judgment : Type 0 where
  pub term : Term
  pub ty : Ty

abbrev pub judgment_code : Coded Judgment
judgment_code = code_by (Term × Ty) (coded× term_code ty_code) (λ j. (j.term, j.ty)) (λ p. record { term = p.0; ty = p.1 }) (λ _. refl)

-- the judgment is derived by the typing rules, in the empty context
abbrev pub Derived : Judgment → Type 0
Derived j = HasType [] [] j.term j.ty
