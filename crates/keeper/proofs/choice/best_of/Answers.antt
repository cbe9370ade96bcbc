use Rattle.std.proofs.Common.{sym, ap, ◌∙◌}
use Rattle.keeper.proofs.Offering.{kept_taken, kept_left, kept_all}
use Rattle.keeper.proofs.choice.best_of.Goals as goal
use Rattle.keeper.proofs.choice.best_of.Goals.{then-passes, else-passes}

pub loop-thing-preserved : goal.loop-thing-preserved
loop-thing-preserved g c = λ test key tests ranks.
    let tested = tests _ _ c.passes.ensures in
    let before = c.loop-thing.invariant test key tests ranks in
    elim c.if-passes.branch [
      | then-passes w ↦
          ap (λ k. k.best) w.keeper-is
          ∙ kept_taken _ key test _ _ _ _ _ c.loop-thing-test.true c.thing-item.is
          (sym tested ∙ w.if-passes.true) (ranks _ _ w.rank.ensures) (w.offer.ensures.after _ before)
      | else-passes w ↦
          ap (λ k. k.best) w.keeper-is
          ∙ kept_left _ key test _ _ _ _ c.loop-thing-test.true c.thing-item.is (sym tested ∙ w.if-passes.false) before
    ]

pub returns : goal.returns
returns g c =
    record {
      answer = λ test key tests ranks.
          c.best_place.ensures.answer
          ∙ kept_all _ key test _ _ _ c.loop-thing-test.false (c.loop-thing.invariant test key tests ranks);
    }
