use Rattle.std.proofs.Common.{◌+◌, ◌*◌}
use Rattle.fing_syntax.specs.Inner.Size.{mod_size}
use Rattle.elab_rules.proofs.paths.+standing.Given as goal

abbrev pub decreases-standing : goal.decreases-standing
decreases-standing l = 2 * mod_size l.phrase.now

abbrev pub decreases-standing_project : goal.decreases-standing_project
decreases-standing_project l = 2 * mod_size l.whole.now + 1
