-- The hidden name of `include`, type parameters, operators, and when a functor is generative.
use Rattle.std.specs.Prelude.{List, [], ◌∷◌, map, Bool, true, false}
use Rattle.omega_kinds.specs.Kind.{Kind}
use Rattle.omega_kinds.specs.declared.effect.Effect.{Effect}
use Rattle.omega_kinds.specs.declared.effect.Effect.TheVariants.{Impure}
use Rattle.omega_kinds.specs.Name.{Name}
use Rattle.omega_terms.specs.declared.op.Op.{Op as TermOp}
use Rattle.sig_definitions.specs.Env.{Env, TypeVar, TypeParam}
use Rattle.fing_syntax.specs.Phrase.{SpanName, Op}
use Rattle.fing_syntax.specs.Place.{name_of}

abbrev pub omega_op : Op → TermOp
omega_op Op.Add = TermOp.Add
omega_op Op.Sub = TermOp.Sub
omega_op Op.Mul = TermOp.Mul
omega_op Op.Div = TermOp.Div
omega_op Op.Rem = TermOp.Rem
omega_op Op.Less = TermOp.Less
omega_op Op.Equal = TermOp.Equal

abbrev pub names_of : List SpanName → List Name
names_of path = map name_of path

-- the hidden name of an included module, which no source can spell
abbrev pub include_name : Name
include_name = 37 ∷ 52 ∷ []

-- a type parameter of a name and a kind
abbrev pub with_type : Env → Kind → Name → Env
with_type g k a = TypeParam a ∷ TypeVar k ∷ g

-- a functor is generative by its keyword, or because its body is impure
abbrev pub functor_effect : (generative : Bool) → (body : Effect) → Effect
functor_effect true e = Impure
functor_effect false e = e
