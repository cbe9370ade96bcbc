use Rattle.std.proofs.Common.{arith}
use borrow.Author.Differences.{ints}
use Rattle.tables.specs.Filled.{timetable_in}
use Rattle.schedule.proofs.Openings.{within_seven}
use Rattle.schedule.proofs.opening.opening_event.Goals as goal

pub returns : goal.returns
returns c = within_seven (timetable_in c.args.tables.now) c.args.day _ c.opening.result c.opening.ensures (omega (arith, ints))
