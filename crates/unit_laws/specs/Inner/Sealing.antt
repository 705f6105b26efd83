-- A structure of two bindings in a context, each under those before it.
use Rattle.std.specs.Prelude.{List}
use Rattle.omega_kinds.specs.Kind.{Kind}
use Rattle.omega_types.specs.Binders.{extend}
use Rattle.sig_definitions.specs.Signatures.Sig.{Module}
use Rattle.sig_laws.specs.Good.{OkModule}
use Rattle.module_judgments.specs.Sequence.{Seq}
use Rattle.unit_judgments.specs.Interfaces.{hidden_in}

-- the module of both bindings and their end
pub record Joined (ctx : List Kind) (first second end : Module) (P : Module → Type 0) : Type 0 where
  pub rest : Module
  pub whole : Module
  pub inner : Seq (extend ctx (hidden_in first)) second end rest
  pub outer : Seq ctx first rest whole
  pub holds : P whole

-- where the parts are good, what is said holds of the module of both and their end
abbrev pub Joins : List Kind → (first second end : Module) → (Module → Type 0) → Type 0
Joins ctx first second end P = OkModule ctx first → OkModule (extend ctx (hidden_in first)) second → OkModule (extend (extend ctx (hidden_in first)) (hidden_in second)) end → Joined ctx first second end P
