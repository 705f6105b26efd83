use Rattle.std.proofs.Common.{ap, ◌∙◌, subst}
use Rattle.std.specs.Prelude.{IfOk, [], ◌∷◌, ◌++◌}
use Rattle.sig_definitions.specs.Signatures.FieldOrder.{in_order}
use Rattle.sig_premise_laws.proofs.NameOrder.{in_order-same}
use Rattle.module_rules.proofs.Ended.{Ends}
use Rattle.fing_elab.proofs.units.end_of.Goals as goal

pub returns : goal.returns
returns c = subst (λ ns. IfOk c.end_struct.result (Ends c.args.env.now ns)) (ap in_order (c.in_ok-push-2.ensures.ok ∙ ap (λ ns. ns ++ c.args.second ∷ []) (c.in_ok-push.ensures.ok ∙ ap (λ ns. ns ++ c.args.first ∷ []) c.new-names.ensures)) ∙ in_order-same _ c.requires.1) c.end_struct.ensures
