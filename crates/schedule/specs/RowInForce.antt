-- The row in force on a day. Assumes nothing.
use Rattle.std.specs.Prelude.{ℕ, Bool, ◌&&◌, List, ℤ, Some, None, filter, Option}
use Rattle.localtime.specs.Weekdays.{weekday_of}
use Rattle.keeper.specs.Best.{first_best}
use Rattle.keeper.specs.Fewer.{fewer}
use Rattle.tables.specs.Bits.{bit}
use Rattle.schedule.specs.Days.{month_of, date_of}
use Rattle.tables.specs.declared.row.Row.{Row}

-- the bits of the month, of the weekday and of the date are set
abbrev pub fits : ℕ → ℕ → ℕ → Row → Bool
fits month weekday date row = bit row.months month && (bit row.weekdays weekday && bit row.dates date)

-- fewer months, then dates, then weekdays
abbrev pub narrower : Row → Row → Bool
narrower x y =
    fewer x.counts.months x.counts.dates x.counts.weekdays y.counts.months y.counts.dates y.counts.weekdays

-- the first of the fitting rows that no fitting row beats
unfoldable pub best_row : ℕ → ℕ → ℕ → List Row → Option Row
best_row month weekday date rows = first_best narrower (filter (fits month weekday date) rows)

abbrev pub row_on : List Row → ℤ → Option Row
row_on rows d = best_row (month_of d) (weekday_of d) (date_of d) rows

-- with no fitting row, row and plan are 0
abbrev pub row_number : Option Row → ℕ
row_number (Some row) = row.number
row_number None = 0

abbrev pub row_plan : Option Row → ℕ
row_plan (Some row) = row.plan
row_plan None = 0
