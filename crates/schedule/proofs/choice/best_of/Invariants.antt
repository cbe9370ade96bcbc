use Rattle.std.proofs.Common.{Bool}
use Rattle.schedule.specs.Choices.{Returns}
use Rattle.keeper.proofs.Offering.{Kept}
use Rattle.schedule.proofs.choice.best_of.Given as goal

abbrev pub invariant-loop-thing : goal.invariant-loop-thing
invariant-loop-thing g l =
    (test : g.row.X.Denot → Bool) (key : g.row.X.Denot → g.row.K.Denot) → Returns g.P.Fn l.passes test → Returns g.R.Fn l.rank key
    → Kept g.K.Ord.cmp key test l.things l.thing-index l.keeper.best
