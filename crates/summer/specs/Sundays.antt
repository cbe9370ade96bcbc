-- Sundays of the months from January 1970, which is month 0. Assumes nothing.
use Rattle.std.specs.Prelude.{◌≡◌, ℕ, ◌+◌, ◌-◌, ◌%◌, ◌<◌, ◌≤◌, pos, unsigned_abs}
use Rattle.calendar.specs.Months.{month_first_of}
use Rattle.localtime.specs.Weekdays.{weekday_of}

-- the day number of a month's first
unfoldable pub first_day : ℕ → ℕ
first_day m = unsigned_abs (month_first_of (m + 1))

abbrev pub Sunday : ℕ → Type 0
Sunday d = weekday_of (pos d) ≡ 1

-- d is the Sunday of month m with no later Sunday in it
pub record IsLastSunday (m d : ℕ) : Type 0 where
  pub from : first_day m ≤ d
  pub to : d < first_day (m + 1)
  pub is : Sunday d
  pub none : (e : ℕ) → d < e → e < first_day (m + 1) → Sunday e → ⊥

-- d is the Sunday of month m with no earlier Sunday in it
pub record IsFirstSunday (m d : ℕ) : Type 0 where
  pub from : first_day m ≤ d
  pub to : d < first_day (m + 1)
  pub is : Sunday d
  pub none : (e : ℕ) → first_day m ≤ e → e < d → Sunday e → ⊥

-- d is the Sunday of month m with exactly one earlier Sunday c in it
pub record IsSecondSunday (m d : ℕ) : Type 0 where
  pub first : ℕ
  pub earlier : IsFirstSunday m first
  pub after : first < d
  pub to : d < first_day (m + 1)
  pub is : Sunday d
  pub none : (e : ℕ) → first < e → e < d → Sunday e → ⊥

-- the same days by a formula, from the month's end or its first
abbrev pub last_sunday : ℕ → ℕ
last_sunday m = first_day (m + 1) - 1 - (first_day (m + 1) + 3) % 7

abbrev pub first_sunday : ℕ → ℕ
first_sunday m = first_day m + (6 - (first_day m + 3) % 7)
