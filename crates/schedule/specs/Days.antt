-- The month and the date of a day, by the calendar's month firsts. Assumes nothing.
use Rattle.std.specs.Prelude.{ℕ, ◌-◌, ℤ, pos, ◌+ℤ◌, ◌-ℤ◌, Some, None, Option, int_lt, unsigned_abs}
use Rattle.calendar.specs.Months.{month_first_of, month_at}
use Rattle.calendar.specs.Dates.{InDays, IsDate}
use Rattle.keeper.specs.Least.{least_later}

-- the calendar has the day d, and so many days before it
pub record Reaches (d : ℤ) (back : ℕ) : Type 0 where
  pub first : InDays (d -ℤ pos back)
  pub last : InDays d

-- the first month that begins after a day: the day lies in the month before it
unfoldable pub next_month : ℤ → Option ℕ
next_month d = least_later (λ k. int_lt d (month_first_of k)) 0 1635

abbrev pub month_before : Option ℕ → ℕ
month_before (Some k) = month_at (k - 1)
month_before None = 0

abbrev pub date_before : ℤ → Option ℕ → ℕ
date_before d (Some k) = unsigned_abs ((d -ℤ month_first_of (k - 1)) +ℤ pos 1)
date_before d None = 0

-- the month of a day of the calendar, 1 to 12
unfoldable pub month_of : ℤ → ℕ
month_of d = month_before (next_month d)

-- its day of the month, from 1
unfoldable pub date_of : ℤ → ℕ
date_of d = date_before d (next_month d)

-- what that says: they are those of the day's only date
abbrev pub DaysHaveDates : Type 0
DaysHaveDates = (d : ℤ) → InDays d → (y : ℕ) × IsDate d y (month_of d) (date_of d)
