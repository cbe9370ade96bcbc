use Rattle.std.proofs.Common.{rules}
use Rattle.std.proofs.lemmas.Int.{to_z-of_z}
use Rattle.schedule.proofs.Wholes.{in_force_by}
use Rattle.tables.specs.Filled.{timetable_in}
use Rattle.schedule.proofs.looking.event_in_force.Goals as goal

pub returns : goal.returns
returns c =
    in_force_by (timetable_in c.args.tables.now) c.args.day c.args.time c.args.plan c.events_of.result.now c.requires.today c.events_of.ensures.answer
    _ _ c.latest_started.result c.map.result c.or_else.result c.latest_started.ensures (λ x y q. search rules) (λ q. search (rules, to_z-of_z)) c.map.ensures.cases c.or_else.ensures
