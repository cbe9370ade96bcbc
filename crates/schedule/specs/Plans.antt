-- The plan and the events of each day of a timetable. Assumes nothing.
use Rattle.std.specs.Prelude.{ℕ, List, ℤ}
use Rattle.tables.specs.Cells.{Timetable, events_of}
use Rattle.schedule.specs.RowInForce.{row_on, row_plan}
use Rattle.tables.specs.declared.event.Event.{Event}

-- the plan of a day
unfoldable pub plan_on : Timetable → ℤ → ℕ
plan_on z d = row_plan (row_on z.rows d)

-- the counting events of a day's plan
abbrev pub events_on : Timetable → ℤ → List Event
events_on z d = events_of z (plan_on z d)
