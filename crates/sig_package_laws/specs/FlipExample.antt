-- Two signatures that match each other and have two package types: f abstract and g its flip, and the other way round.
use Rattle.std.specs.Prelude.{[], ◌∷◌}
use Rattle.omega_kinds.specs.Kind.{Kind}
use Rattle.omega_kinds.specs.Name.{Name}
use Rattle.omega_types.specs.Ty.{Ty}
use Rattle.sig_definitions.specs.Signatures.Sig.{Sig, Abs, SigRow}

-- the kind of operators of two types
abbrev pub binary : Kind
binary = Kind.Arrow Kind.Star (Kind.Arrow Kind.Star Kind.Star)

-- the hidden operator, and its flip
abbrev pub direct : Ty
direct = Ty.Lam Kind.Star (Ty.Lam Kind.Star (Ty.Apply (Ty.Apply (Ty.Var 2) (Ty.Var 1)) (Ty.Var 0)))

abbrev pub flipped : Ty
flipped = Ty.Lam Kind.Star (Ty.Lam Kind.Star (Ty.Apply (Ty.Apply (Ty.Var 2) (Ty.Var 0)) (Ty.Var 1)))

abbrev pub named_f : Name
named_f = 102 ∷ []

abbrev pub named_g : Name
named_g = 103 ∷ []

abbrev pub two_parts : Ty → Ty → Sig
two_parts t u = Sig.Str (SigRow.More named_f (Sig.Typ t binary) (SigRow.More named_g (Sig.Typ u binary) SigRow.End))

abbrev pub f_first : Abs
f_first = Abs.Ex (binary ∷ []) (two_parts direct flipped)

abbrev pub g_first : Abs
g_first = Abs.Ex (binary ∷ []) (two_parts flipped direct)
