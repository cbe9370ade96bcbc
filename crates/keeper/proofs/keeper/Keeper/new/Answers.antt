use Rattle.std.proofs.Common.{refl}
use Rattle.keeper.specs.Best.{first_best, first_unbeaten}
use Rattle.keeper.proofs.keeper.Keeper.new.Goals as goal

pub returns : goal.returns
unfolding first_best first_unbeaten
returns g c = record { answer = refl }
