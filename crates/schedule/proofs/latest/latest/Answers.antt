use Rattle.std.proofs.Common.{true, rules}
use Rattle.schedule.proofs.Ranks.{latest_of_all}
use Rattle.schedule.proofs.latest.latest.Goals as goal

pub returns : goal.returns
returns c = latest_of_all _ _ (c.best_of.ensures.answer (λ _. true) (λ event. record { 0 = event.minute }) (λ x r m. search rules) (λ x r m. search rules))
