use Rattle.std.proofs.Common.{rules}
use Rattle.schedule.specs.RowInForce.{fits}
use Rattle.schedule.proofs.Ranks.{narrowest}
use Rattle.schedule.proofs.row_in_force.best_row.Goals as goal

pub returns : goal.returns
returns c =
    narrowest _ _ _ _ _
    (c.best_of.ensures.answer (fits c.args.day.month c.args.day.weekday c.args.day.date) (λ row. row.counts) (λ x r m. search rules) (λ x r m. search rules))
