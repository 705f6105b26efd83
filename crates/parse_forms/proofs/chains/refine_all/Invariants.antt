use Rattle.std.proofs.Common.{◌≡◌, length, map}
use Rattle.std.specs.Prelude.{reverse}
use Rattle.parse_forms.specs.Inner.Part.{where_in}
use Rattle.parse_grammar.specs.Forms as form
use Rattle.parse_forms.proofs.chains.refine_all.Given as goal

abbrev pub invariant-chain : goal.invariant-chain
invariant-chain l = form.refine_all l.whole (map where_in (reverse l.left.items)) ≡ form.refine_all l.fn.sig (map where_in (reverse l.fn.wheres.items))

abbrev pub decreases-chain : goal.decreases-chain
decreases-chain l = length l.left.items
