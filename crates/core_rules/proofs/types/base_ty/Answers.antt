use Rattle.omega_kinds.specs.View.{kind_tree}
use Rattle.semantic_sigs.specs.declared.made.Kinded.{Kinded}
use Rattle.core_judgments.specs.TypeRules.{BaseGives}
use Rattle.core_rules.specs.Inner.Plain.{plain_base}
use Rattle.core_rules.proofs.Conclusions.{both-given}
use Rattle.core_rules.proofs.types.base_ty.Goals as goal

pub returns-in-Int : goal.returns-in-Int
returns-in-Int c = both-given (λ (o : Kinded). o.ty) (λ (o : Kinded). kind_tree o.kind) (BaseGives (plain_base c.args.what)) _ _ _ c.of_values.ensures.ty c.of_values.ensures.kind (rw c.in-Int.is BaseGives.int)

pub returns-in-Bool : goal.returns-in-Bool
returns-in-Bool c = both-given (λ (o : Kinded). o.ty) (λ (o : Kinded). kind_tree o.kind) (BaseGives (plain_base c.args.what)) _ _ _ c.of_values-in-Bool.ensures.ty c.of_values-in-Bool.ensures.kind (rw c.in-Bool.is BaseGives.bool)

pub returns-in-Text : goal.returns-in-Text
returns-in-Text c = both-given (λ (o : Kinded). o.ty) (λ (o : Kinded). kind_tree o.kind) (BaseGives (plain_base c.args.what)) _ _ _ c.of_values-in-Text.ensures.ty c.of_values-in-Text.ensures.kind (rw c.in-Text.is BaseGives.text)
