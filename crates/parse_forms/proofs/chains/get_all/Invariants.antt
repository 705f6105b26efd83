use Rattle.std.proofs.Common.{◌≡◌, length, map}
use Rattle.std.specs.Prelude.{reverse}
use Rattle.fing_syntax.specs.Inner.Leaves.{spelled}
use Rattle.parse_grammar.specs.Forms as form
use Rattle.parse_forms.proofs.chains.get_all.Given as goal

abbrev pub invariant-chain : goal.invariant-chain
invariant-chain l = form.get_all l.field (map spelled (reverse l.left.items)) ≡ form.get_all l.fn.whole (map spelled (reverse l.fn.names.items))

abbrev pub decreases-chain : goal.decreases-chain
decreases-chain l = length l.left.items
