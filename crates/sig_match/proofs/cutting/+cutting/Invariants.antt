use Rattle.std.proofs.Common.{◌+◌, ◌*◌, length}
use Rattle.sig_match.proofs.cutting.+cutting.Given as goal

abbrev pub decreases-cut : goal.decreases-cut
decreases-cut l = 3 * length l.path.now

abbrev pub decreases-cut_step : goal.decreases-cut_step
decreases-cut_step l = 3 * length l.rest.now + 2

abbrev pub decreases-cut_part : goal.decreases-cut_part
decreases-cut_part l = 3 * length l.rest.now + 1

abbrev pub decreases-cut_result : goal.decreases-cut_result
decreases-cut_result l = 3 * length l.rest.now + 1
