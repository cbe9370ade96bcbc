use Rattle.std.proofs.Common.{arith}
use borrow.Author.Differences.{ints}
use Rattle.summer.specs.Months.{day_of_lem}
use Rattle.summer.proofs.sundays.first_day.Goals as goal

pub overflow_cast-result : goal.overflow_cast-result
overflow_cast-result c = let e = day_of_lem c.args.month c.in-Some.day (omega arith) c.in-Some.ensures in (omega (arith, ints), omega (arith, ints))

pub returns : goal.returns
returns c =
    let e = day_of_lem c.args.month c.in-Some.day (omega arith) c.in-Some.ensures in
    record { value = omega (arith, ints); small = omega (arith, ints) }
