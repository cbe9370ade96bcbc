-- Day numbers and dates. Day 0 is 1 January 1970. Assumes nothing.
use Rattle.std.specs.Prelude.{◌≡◌, ℕ, ◌+◌, ◌-◌, ◌*◌, ◌≤◌, ℤ, pos, negsuc, ◌+ℤ◌, ◌≤ℤ◌, ◌<ℤ◌, Ok, Err, Result}
use Rattle.refusal.specs.declared.refusal.Refusal.{Refusal}
use Rattle.refusal.specs.declared.refusal.Refusal.TheVariants.{NoDate}
use Rattle.calendar.specs.Months.{month_first_of, length_of}

-- the days from 1 December 1969 to 28 February 2106
pub record InDays (n : ℤ) : Type 0 where
  pub from : negsuc 30 ≤ℤ n
  pub to : n <ℤ pos 49732

-- the place of a month of a year, from December 1969 on
abbrev pub place_of : ℕ → ℕ → ℕ
place_of y m = y * 12 + m - 23640

-- the day n is the day d of the month m of the year y
pub record IsDate (n : ℤ) (y m d : ℕ) : Type 0 where
  pub month_from : 1 ≤ m
  pub month_to : m ≤ 12
  pub day_from : 1 ≤ d
  pub day_to : d ≤ length_of y m
  pub number : n +ℤ pos 1 ≡ month_first_of (place_of y m) +ℤ pos d
  pub begun : 23640 ≤ y * 12 + m

-- the date of a day: the only one with that number; outside the calendar's days there is none
abbrev pub DateOf : ℤ → Result (ℕ × ℕ × ℕ) Refusal → Type 0
DateOf n (Ok p) =
    InDays n × IsDate n p.0 p.1 p.2
    × ((y m d : ℕ) → IsDate n y m d → (y ≡ p.0) × (m ≡ p.1) × (d ≡ p.2))
DateOf n (Err e) = (e ≡ NoDate) × (InDays n → ⊥)

-- the day of a date, where one of the calendar's days has it
abbrev pub DayOf : ℕ → ℕ → ℕ → Result ℤ Refusal → Type 0
DayOf y m d (Ok n) = InDays n × IsDate n y m d
DayOf y m d (Err e) = (e ≡ NoDate) × ((n : ℤ) → InDays n → IsDate n y m d → ⊥)

-- a day comes back from its date
abbrev pub SameDay : ℤ → Result ℤ Refusal → Type 0
SameDay day (Ok n) = InDays day × (n ≡ day)
SameDay day (Err e) = (e ≡ NoDate) × (InDays day → ⊥)

-- a date comes back from its day
abbrev pub SameDate : ℕ → ℕ → ℕ → Result (ℕ × ℕ × ℕ) Refusal → Type 0
SameDate y m d (Ok p) = (p.0 ≡ y) × (p.1 ≡ m) × (p.2 ≡ d)
SameDate y m d (Err e) = (e ≡ NoDate) × ((n : ℤ) → InDays n → IsDate n y m d → ⊥)
