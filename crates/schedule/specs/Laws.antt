-- What holds of all looks. Assumes nothing.
use Rattle.std.specs.Prelude.{◌≡◌, ℕ, ◌-◌, ◌≤◌, Bool, List, ℤ, filter}
use Rattle.localtime.specs.Weekdays.{weekday_of}
use Rattle.keeper.specs.Best.{IsFirstBest}
use Rattle.keeper.specs.Least.{IsLeast, least_later}
use Rattle.tables.specs.Cells.{Timetable, timetable}
use Rattle.schedule.specs.Days.{DaysHaveDates, date_of, month_of}
use Rattle.schedule.specs.RowInForce.{fits, narrower, row_on}
use Rattle.schedule.specs.EventInForce.{latest_of, starts_later}
use Rattle.tables.specs.declared.event.Event.{Event}
use Rattle.tables.specs.declared.row.Row.{Row}
use Rattle.schedule.specs.Openings.{OpeningsMean}
use Rattle.schedule.specs.Looks.{Rule, SameRule, look_of, onward}

-- up to its last second a look repeats every field but local time, which is later by exactly the seconds between
abbrev pub Steady : Type 0
Steady = (z : Timetable) (f : Rule) (t u : ℕ) → t ≤ u → u ≤ (look_of z f t).last_second → look_of z f u ≡ onward (u - t) (look_of z f t)

-- the last second of a look is not before the look, nor past the last of all
abbrev pub LastWithin : Type 0
LastWithin = (z : Timetable) (f : Rule) (t : ℕ) → t ≤ 4294967295 → (t ≤ (look_of z f t).last_second) × ((look_of z f t).last_second ≤ 4294967295)

-- rules that mean the same give the same looks
abbrev pub Agreeing : Type 0
Agreeing = (cell : ℕ → ℕ) (f g : Rule) (t : ℕ) → SameRule f g → t ≤ 4294967295 → look_of (timetable cell) f t ≡ look_of (timetable cell) g t

-- the least later number is later, has the property, and none between has it; or there is none
abbrev pub LeastMeans : Type 0
LeastMeans = (p : ℕ → Bool) (t l : ℕ) → IsLeast p t l (least_later p t l)

-- the row in force is a fitting row that no fitting row beats, and it beats each fitting row with a lower number
abbrev pub RowsMean : Type 0
RowsMean = (rows : List Row) (d : ℤ) → IsFirstBest narrower (filter (fits (month_of d) (weekday_of d) (date_of d)) rows) (row_on rows d)

-- the latest event is one that none starts after, and it starts after each with a lower number
abbrev pub EventsMean : Type 0
EventsMean = (events : List Event) → IsFirstBest starts_later events (latest_of events)

-- all of this, with what the month, the date and the opening event of a day are
pub record Laws : Type 0 where
  pub steady : Steady
  pub within : LastWithin
  pub agreeing : Agreeing
  pub least : LeastMeans
  pub rows : RowsMean
  pub events : EventsMean
  pub dates : DaysHaveDates
  pub openings : OpeningsMean
