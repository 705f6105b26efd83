use Rattle.std.proofs.Common.{◌↔◌, [], drop, map}
use Rattle.sig_definitions.specs.Explicit.SigPath.{Item, PartAt}
use Rattle.sig_definitions.specs.Signatures.Sig.{Sig}
use Rattle.semantic_sigs.proofs.parts.part.Given as goal

abbrev pub invariant-loop-name : goal.invariant-loop-name
invariant-loop-name l =
    (q : Sig) → PartAt l.here (map Item.Part (drop l.name-index l.path)) [] q ↔ PartAt l.sig (map Item.Part l.path) [] q
