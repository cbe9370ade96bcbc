use Rattle.std.proofs.Common.{rules}
use Rattle.schedule.proofs.Ranks.{started_is}
use Rattle.schedule.specs.EventInForce.{has_started}
use Rattle.schedule.proofs.latest.latest_started.Goals as goal

pub returns : goal.returns
returns c = started_is _ _ _ (c.best_of.ensures.answer (has_started c.args.second) (λ event. record { 0 = event.minute }) (λ x r m. search rules) (λ x r m. search rules))
