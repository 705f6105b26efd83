use Rattle.std.proofs.Common.{◌≡◌, ◌++◌, map, length}
use Rattle.parse_grammar.specs.Inner.Steps.{wanted}
use Rattle.parse_grammar.specs.Inner.View.{symbol_in}
use Rattle.parse_grammar.proofs.recogniser.push_all.Given as goal

abbrev pub invariant-push : goal.invariant-push
invariant-push l = map symbol_in l.left ++ wanted l.stack.items ≡ map symbol_in l.symbols ++ wanted l.initial.stack.items

abbrev pub decreases-push : goal.decreases-push
decreases-push l = length l.left
