use Rattle.std.proofs.Common.{◌+◌, ◌*◌}
use Rattle.schedule.proofs.opening.+closing_opening.Given as goal

abbrev pub decreases-closing : goal.decreases-closing
decreases-closing l = 2 * l.left + 1

abbrev pub decreases-opening : goal.decreases-opening
decreases-opening l = 2 * l.left
