use Rattle.std.proofs.Common.{refl}
use Rattle.calendar.specs.Months.{length_at}
use Rattle.calendar.proofs.Table.{rule}
use Rattle.calendar.proofs.months.month_firsts.Goals as goal

pub returns : goal.returns
unfolding length_at
returns c = rule _ refl tt
