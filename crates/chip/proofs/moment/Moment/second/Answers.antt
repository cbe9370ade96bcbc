use Rattle.std.proofs.Common.{arith}
use Rattle.chip.specs.Moment.{seconds_to}
use Rattle.chip.proofs.moment.Moment.second.Goals as goal

pub returns : goal.returns
unfolding seconds_to
returns c = record { answer = omega arith; within = (omega arith, omega arith) }
