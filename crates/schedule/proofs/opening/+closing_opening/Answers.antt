use Rattle.std.proofs.Common.{arith}
use borrow.Author.Differences.{ints}
use Rattle.schedule.proofs.Openings.{none_left, step}
use Rattle.schedule.proofs.opening.+closing_opening.Goals as goal

pub opening-returns-in_err-fewer : goal.opening-returns-in_err-fewer
opening-returns-in_err-fewer t c = none_left _ _ _ _ (omega (arith, c.in_err-fewer.ensures)) c.from_residual.ensures

pub opening-returns : goal.opening-returns
opening-returns t c = step _ _ _ _ _ _ (omega (arith, c.in_ok-fewer.ensures)) (omega (arith, ints)) c.closing.ensures
