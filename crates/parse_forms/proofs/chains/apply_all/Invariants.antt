use Rattle.std.proofs.Common.{◌≡◌, length}
use Rattle.std.specs.Prelude.{reverse}
use Rattle.parse_grammar.specs.Forms as form
use Rattle.parse_forms.proofs.chains.apply_all.Given as goal

abbrev pub invariant-chain : goal.invariant-chain
invariant-chain l = form.apply_all l.applied (reverse l.left.items) ≡ form.apply_all l.fn.function (reverse l.fn.args.items)

abbrev pub decreases-chain : goal.decreases-chain
decreases-chain l = length l.left.items
