-- What a quantifier of the code binds.
use Rattle.std.specs.Prelude.{List}
use Rattle.omega_kinds.specs.Kind.{Kind}
use Rattle.omega_types.specs.Ty.{Ty}
use Rattle.omega_types.specs.Binders.{all_over, ex_over}
use Rattle.semantic_sigs.specs.declared.encoding.Quantifier.{Quantifier}
use Rattle.semantic_sigs.specs.declared.encoding.Quantifier.TheVariants as quantifier

abbrev pub quantified_once : Quantifier → Kind → Ty → Ty
quantified_once quantifier.All k t = Ty.All k t
quantified_once quantifier.Some k t = Ty.Ex k t

abbrev pub quantified : Quantifier → List Kind → Ty → Ty
quantified quantifier.All ks t = all_over ks t
quantified quantifier.Some ks t = ex_over ks t
