use Rattle.exports.specs.Crossing.{fields_of, rule_at}
use Rattle.tables.specs.Filled.{timetable_in}
use Rattle.schedule.specs.Looks.{look_of}
use Rattle.std.proofs.Common.{◌≡◌, map, take, drop}
use Rattle.exports.proofs.looks.seen_each.Given as goal

abbrev pub invariant-loop-place : goal.invariant-loop-place
invariant-loop-place l = record {
  sofar : take l.place l.looks ≡ map (λ s. fields_of (look_of (timetable_in l.tables) (rule_at l.rule) s)) (take l.place l.asked);
  same : drop l.n l.looks ≡ drop l.n l.initial.looks;
}
