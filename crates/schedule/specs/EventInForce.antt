-- The event in force at a second of a day. Assumes nothing.
use Rattle.std.specs.Prelude.{ℕ, ◌*◌, Bool, List, ℤ, pos, ◌-ℤ◌, is_some, Some, None, filter, Option, nat_le, nat_lt}
use Rattle.keeper.specs.Best.{first_best}
use Rattle.keeper.specs.Least.{least_later}
use Rattle.tables.specs.Cells.{Timetable}
use Rattle.schedule.specs.Plans.{plan_on, events_on}
use Rattle.tables.specs.declared.event.Event.{Event}
use Rattle.schedule.specs.declared.shown.EventInForce.{EventInForce}

-- the later start wins; of equal ones the first, which has the lowest number
abbrev pub starts_later : Event → Event → Bool
starts_later x y = nat_lt y.minute x.minute

-- the latest of some events
unfoldable pub latest_of : List Event → Option Event
latest_of events = first_best starts_later events

-- an event starts at second 0 of its minute
abbrev pub has_started : ℕ → Event → Bool
has_started second event = nat_le (event.minute * 60) second

-- those that have started at a second of the day
unfoldable pub started_by : ℕ → List Event → List Event
started_by second events = filter (has_started second) events

-- how a look shows that there is none
abbrev pub no_event : EventInForce
no_event = record { plan = 0; number = 0; days_back = 0; tariff = 0 }

-- an event of a plan that started so many days back
abbrev pub event_of : ℕ → ℕ → Event → EventInForce
event_of plan back e = record { plan = plan; number = e.number; days_back = back; tariff = e.tariff }

-- an event of the day so many days before the day d
abbrev pub event_from : Timetable → ℤ → ℕ → Option Event → Option EventInForce
event_from z d back (Some e) = Some (event_of (plan_on z (d -ℤ pos back)) back e)
event_from z d back None = None

-- how many days back the nearest day is that has an event, up to seven
unfoldable pub days_back_of : Timetable → ℤ → Option ℕ
days_back_of z d = least_later (λ back. is_some (latest_of (events_on z (d -ℤ pos back)))) 0 7

abbrev pub closing_from : Timetable → ℤ → Option ℕ → Option EventInForce
closing_from z d (Some back) = event_from z d back (latest_of (events_on z (d -ℤ pos back)))
closing_from z d None = None

-- the opening event of a day: the latest event of the nearest day before it that has one
unfoldable pub opening_of : Timetable → ℤ → Option EventInForce
opening_of z d = closing_from z d (days_back_of z d)

abbrev pub latest_or : Timetable → ℤ → Option Event → Option EventInForce
latest_or z d (Some e) = Some (event_of (plan_on z d) 0 e)
latest_or z d None = opening_of z d

-- the latest of today's events that have started, or the opening event
unfoldable pub event_in_force : Timetable → ℤ → ℕ → Option EventInForce
event_in_force z d second = latest_or z d (latest_of (started_by second (events_on z d)))
