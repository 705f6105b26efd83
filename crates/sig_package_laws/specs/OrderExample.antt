-- Two signatures that match each other and have two package types: a pure functor whose parameter declares a before b,
-- and one whose parameter declares b before a. The lifted type of the result takes its arguments in that order.
use Rattle.std.specs.Prelude.{List, [], ◌∷◌}
use Rattle.omega_kinds.specs.Kind.{Kind}
use Rattle.omega_kinds.specs.declared.effect.Effect.TheVariants.{Pure}
use Rattle.omega_types.specs.Ty.{Ty}
use Rattle.sig_definitions.specs.Signatures.Sig.{Sig, Abs, SigRow}
use Rattle.sig_package_laws.specs.FlipExample.{binary}

abbrev pub two_types : Ty → Ty → Sig
two_types t u = Sig.Str (SigRow.More (97 ∷ []) (Sig.Typ t Kind.Star) (SigRow.More (98 ∷ []) (Sig.Typ u Kind.Star) SigRow.End))

abbrev pub result_part : Ty → Sig
result_part t = Sig.Str (SigRow.More (114 ∷ []) (Sig.Typ t Kind.Star) SigRow.End)

-- the hidden operator at the parameter's types in the order in which they are hidden, and in the other order
abbrev pub in_order : Ty
in_order = Ty.Apply (Ty.Apply (Ty.Var 2) (Ty.Var 1)) (Ty.Var 0)

abbrev pub out_of_order : Ty
out_of_order = Ty.Apply (Ty.Apply (Ty.Var 2) (Ty.Var 0)) (Ty.Var 1)

abbrev pub two_stars : List Kind
two_stars = Kind.Star ∷ Kind.Star ∷ []

abbrev pub functor : Ty → Ty → Sig
functor t u = Sig.Fun Pure two_stars (two_types t u) (Abs.Ex [] (result_part in_order))

abbrev pub a_first : Abs
a_first = Abs.Ex (binary ∷ []) (functor (Ty.Var 1) (Ty.Var 0))

abbrev pub b_first : Abs
b_first = Abs.Ex (binary ∷ []) (functor (Ty.Var 0) (Ty.Var 1))
