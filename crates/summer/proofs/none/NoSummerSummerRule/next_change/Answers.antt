use Rattle.std.proofs.Common.{false, None, refl}
use Rattle.keeper.specs.Least.{changes}
use Rattle.keeper.proofs.Leasts.{least_only}
use Rattle.summer.proofs.none.NoSummerSummerRule.next_change.Goals as goal

pub returns : goal.returns
returns c = least_only (changes (λ s. false)) c.args.second 4294967295 None (λ m l u. refl)
