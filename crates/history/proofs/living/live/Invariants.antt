use Rattle.std.proofs.Common.{◌≡◌, take, drop}
use Rattle.history.specs.History.{meaning}
use Rattle.history.proofs.Turns.{Sofar}
use Rattle.history.proofs.living.live.Given as goal

abbrev pub invariant-loop-place : goal.invariant-loop-place
invariant-loop-place g l =
    let mean = meaning g.C.Clock.meaning g.S.Store.cells g.S.Store.memory g.R.SummerRule.in_force in record {
      sofar : Sofar g.C.SettableClock.kind (mean l.initial.engine) l.made (mean l.engine) (take l.place l.answers) (drop l.place l.made);
      same : drop l.n l.answers ≡ drop l.n l.initial.answers;
    }
