use Rattle.std.proofs.Common.{◌≡◌, take, drop}
use Rattle.history.specs.History.{meaning}
use Rattle.exports.specs.Lives.{calls_of}
use Rattle.exports.proofs.Lifetimes.{Sofar}
use Rattle.exports.proofs.lives.live_each.Given as goal

abbrev pub invariant-loop-place : goal.invariant-loop-place
invariant-loop-place g l =
    let mean = meaning g.C.Clock.meaning g.S.Store.cells g.S.Store.memory g.R.SummerRule.in_force in
    let calls = calls_of l.orders l.made in record {
      sofar : Sofar g.C.SettableClock.kind (mean l.initial.engine) calls (mean l.engine) (take l.place l.answers) (drop l.place calls);
      same : drop l.n l.answers ≡ drop l.n l.initial.answers;
    }
