use Rattle.std.proofs.Common.{take, map}
use Rattle.sig_definitions.specs.Signatures.RecordOrder.{IsNew}
use Rattle.elab_rules.proofs.naming.is_new.Given as goal

abbrev pub invariant-loop-part : goal.invariant-loop-part
invariant-loop-part g l = IsNew l.name (map (λ x. x.0) (take l.part-index l.done))
