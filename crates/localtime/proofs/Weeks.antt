-- Weekdays follow one another.
use Rattle.std.proofs.Common.{refl, arith}
use borrow.Author.Differences.{ints}
use Rattle.std.proofs.lemmas.Bool.Decides.{nat_tests}
use Rattle.localtime.specs.Weekdays.{weekday_of, WeekdaysTurn}

pub turns : WeekdaysTurn
unfolding weekday_of
turns = record { thursday = refl; next = λ n. grind (arith, ints, nat_tests) }
