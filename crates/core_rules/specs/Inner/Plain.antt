-- What the code's refusals, base types and literals are seen as: plain ones, and nothing when memory is out.
use Rattle.std.specs.Prelude.{Option, Some, None}
use Rattle.omega_kinds.specs.View.{kind_tree}
use Rattle.core_judgments.specs.CoreWhy.{CoreWhy}
use Rattle.core_judgments.specs.ExpRules.{Literal}
use Rattle.core_judgments.specs.TypeRules.{Base}
use Rattle.core_rules.specs.declared.expressions.Literal.{Literal as CodeLiteral}
use Rattle.core_rules.specs.declared.expressions.Literal.TheVariants as literal
use Rattle.core_rules.specs.declared.refusal.CoreRefusal.{CoreRefusal}
use Rattle.core_rules.specs.declared.refusal.CoreRefusal.TheVariants as refusal
use Rattle.core_rules.specs.declared.types.Base.{Base as CodeBase}
use Rattle.core_rules.specs.declared.types.Base.TheVariants as base

abbrev pub plain_why : CoreRefusal → Option CoreWhy
plain_why (refusal.NotArrow t) = Some (CoreWhy.NotArrow t)
plain_why (refusal.NotAll t) = Some (CoreWhy.NotAll t)
plain_why (refusal.NotRecord t) = Some (CoreWhy.NotRecord t)
plain_why (refusal.NotSum t) = Some (CoreWhy.NotSum t)
plain_why (refusal.NoField name) = Some (CoreWhy.NoField name)
plain_why (refusal.NoBranch name) = Some (CoreWhy.NoBranch name)
plain_why (refusal.Differ t u) = Some (CoreWhy.Differ t u)
plain_why (refusal.KindDiffer k j) = Some (CoreWhy.KindDiffer (kind_tree k) (kind_tree j))
plain_why refusal.NotOperator = Some CoreWhy.NotOperator
plain_why (refusal.DuplicateField name) = Some (CoreWhy.DuplicateField name)
plain_why refusal.Mem = None

-- what the code answers when memory is out
abbrev pub want_of_memory : CoreRefusal
want_of_memory = refusal.Mem

abbrev pub plain_base : CodeBase → Base
plain_base base.Int = Base.Int
plain_base base.Bool = Base.Bool
plain_base base.Text = Base.Text

abbrev pub plain_literal : CodeLiteral → Literal
plain_literal (literal.Int z) = Literal.Int z
plain_literal (literal.Bool b) = Literal.Bool b
plain_literal (literal.Text bytes) = Literal.Text bytes
