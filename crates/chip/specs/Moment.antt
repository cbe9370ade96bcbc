-- Dates and times of the calendar chip, in UTC. Assumes nothing.
use Rattle.std.specs.Prelude.{ℕ, ◌+◌, ◌-◌, ◌*◌, ◌≤◌, unsigned_abs}
use Rattle.calendar.specs.Dates.{place_of}
use Rattle.calendar.specs.Months.{month_first_of}

-- the first and the last second of the years 2000 to 2099
abbrev pub chip_first : ℕ
chip_first = 946684800

abbrev pub chip_last : ℕ
chip_last = 4102444799

-- a field lies from low to high
abbrev pub Within : ℕ → ℕ → ℕ → Type 0
Within low n high = (low ≤ n) × (n ≤ high)

-- the days from 1 January 1970 to a later date: those to the first of its month, and those from there on
unfoldable pub days_to : ℕ → ℕ → ℕ → ℕ
days_to year month day = unsigned_abs (month_first_of (place_of year month)) + (day - 1)

-- the seconds from 1970-01-01 00:00 to a date and time
unfoldable pub seconds_to : ℕ → ℕ → ℕ → ℕ → ℕ → ℕ → ℕ
seconds_to year month day hour minute second = ((days_to year month day * 24 + hour) * 60 + minute) * 60 + second
