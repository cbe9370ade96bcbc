use Rattle.std.proofs.Common.{◌+◌, ◌-◌, ◌++◌, take}
use Rattle.std.specs.List.{flat_map}
use Rattle.schedule.specs.Candidates.{up_to, ahead}
use Rattle.schedule.specs.Soonest.{SoonestOf}
use Rattle.schedule.proofs.boundary.next_boundary.Given as goal

abbrev pub invariant-loop-event : goal.invariant-loop-event
invariant-loop-event l = SoonestOf (up_to (l.t + (86400 - l.time)) ++ flat_map (ahead l.t l.time) (take l.event-index l.events)) l.soonest.best
