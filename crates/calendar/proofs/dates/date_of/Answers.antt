use Rattle.std.proofs.Common.{arith}
use borrow.Author.Differences.{ints}
use Rattle.calendar.proofs.MonthPlaces.{within, found, only}
use Rattle.calendar.proofs.dates.date_of.Goals as goal

pub overflow_sub-date : goal.overflow_sub-date
overflow_sub-date c = let w = within c.place_of-place.result _ c.place_of-place.ensures.open in omega (arith, ints)

pub overflow_add-date : goal.overflow_add-date
overflow_add-date c = let w = within c.place_of-place.result _ c.place_of-place.ensures.open in omega (arith, ints)

pub overflow_cast-date : goal.overflow_cast-date
overflow_cast-date c = let w = within c.place_of-place.result _ c.place_of-place.ensures.open in (omega (arith, ints), omega (arith, ints))

pub returns : goal.returns
returns c =
    let w = within c.place_of-place.result _ c.place_of-place.ensures.open in
    let date = found c.args.day c.place_of-place.result _ (omega (arith, ints)) (omega (arith, ints)) (omega (arith, ints)) in (
      record { from = omega (arith, ints); to = omega (arith, ints) },
      date,
      (λ y m d i. only c.args.day y m d _ _ _ i date),
    )
