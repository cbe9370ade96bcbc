use Rattle.std.proofs.Common.{ℕ, ◌+◌, ◌-◌, ◌*◌, refl, arith}
use borrow.Author.Differences.{ints}
use Rattle.calendar.proofs.MonthPlaces.{bounds, late, made, no_day}
use Rattle.calendar.proofs.dates.day_of.Goals as goal
use Rattle.calendar.proofs.dates.day_of.Goals.{then-months-lt23640-via-then-months-lt23640, then-months-lt23640-via-else-months-lt23640+then-months-ge25275, then-day-lt1-via-then-day-lt1, then-day-lt1-via-else-day-lt1+then-day-end}

abbrev place : ℕ × ℕ × ℕ → ℕ
place d = d.0 * 12 + d.1 - 23640

pub returns-then-months-lt23640 : goal.returns-then-months-lt23640
returns-then-months-lt23640 c = (
  refl,
  λ n r i.
      elim c.then-months-lt23640.branch [
        | then-months-lt23640-via-then-months-lt23640 w ↦ omega arith
        | then-months-lt23640-via-else-months-lt23640+then-months-ge25275 w ↦
            late n c.args.date.0 c.args.date.1 c.args.date.2 w.if-months-ge25275.true r i
      ],
)

pub overflow_sub-end : goal.overflow_sub-end
overflow_sub-end c = let b = bounds (place c.args.date) (omega arith) in omega (arith, ints)

pub returns-then-day-lt1 : goal.returns-then-day-lt1
returns-then-day-lt1 c = (
  refl,
  λ n r i.
      elim c.then-day-lt1.branch [
        | then-day-lt1-via-then-day-lt1 w ↦ omega arith
        | then-day-lt1-via-else-day-lt1+then-day-end w ↦
            let b = bounds (place c.args.date) (omega arith) in
            no_day n c.args.date.0 c.args.date.1 c.args.date.2 (place c.args.date) (omega arith) (omega (arith, ints)) i
      ],
)

pub overflow_add-result : goal.overflow_add-result
overflow_add-result c = let b = bounds (place c.args.date) (omega arith) in omega (arith, ints)

pub returns : goal.returns
returns c =
    let b = bounds (place c.args.date) (omega arith) in
    made _ c.args.date.0 c.args.date.1 c.args.date.2 (place c.args.date)
    (omega arith) (omega arith) (omega arith) (omega arith) (omega arith) (omega arith)
    (omega (arith, ints)) (omega (arith, ints))
