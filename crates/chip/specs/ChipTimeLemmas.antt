use Rattle.std.proofs.Common.{arith}
use Rattle.std.specs.Prelude.{Some, None, Option, refl}
use Rattle.chip.specs.declared.moment.Moment.{Moment}
use Rattle.chip.specs.Chip.{chip_meaning}
use Rattle.clock.specs.Time.{Sound}
use Rattle.chip.specs.Moments.{moment_second}

pub sound : (o : Option Moment) → Sound (chip_meaning o)
sound None = refl
sound (Some m) = let w = moment_second m in omega arith
