use Rattle.std.proofs.Common.{◌≡◌, length, map}
use Rattle.std.specs.Prelude.{reverse}
use Rattle.parse_forms.specs.Inner.Part.{ascription_in}
use Rattle.parse_grammar.specs.Forms as form
use Rattle.parse_forms.proofs.chains.ascribe_all.Given as goal

abbrev pub invariant-chain : goal.invariant-chain
invariant-chain l = form.ascribe_all l.whole (map ascription_in (reverse l.left.items)) ≡ form.ascribe_all l.fn.inner (map ascription_in (reverse l.fn.ascriptions.items))

abbrev pub decreases-chain : goal.decreases-chain
decreases-chain l = length l.left.items
