use Rattle.std.proofs.Common.{arith, rules}
use borrow.Author.Differences.{ints}
use Rattle.tables.specs.Filled.{timetable_in}
use Rattle.schedule.proofs.Wholes.{whole}
use Rattle.schedule.proofs.looking.look_at.Goals as goal

pub returns : goal.returns
returns c =
    whole (timetable_in c.args.tables.now) c.args.second c.args.moment c.args.change
    _ _ c.row_on-row.result.plan c.row_on-row.result.number _ c.event_in_force.result c.unwrap_or_default-event.result c.last_second.result
    (omega (arith, ints)) (omega (arith, ints)) c.row_on-row.ensures.number c.row_on-row.ensures.plan
    c.event_in_force.ensures (search rules) c.events_of.ensures.answer c.last_second.ensures
