-- Opening and closing events, each by the other, while days are left: a helper, shown equal to the opening event.
use Rattle.std.specs.Prelude.{◌≡◌, ℕ, zero, suc, ◌-◌, ℤ, pos, ◌-ℤ◌, Some, None, Option}
use Rattle.tables.specs.Cells.{Timetable}
use Rattle.schedule.specs.Plans.{plan_on, events_on}
use Rattle.schedule.specs.EventInForce.{event_of, latest_of, opening_of}
use Rattle.tables.specs.declared.event.Event.{Event}
use Rattle.schedule.specs.declared.shown.EventInForce.{EventInForce}

-- the latest event of the plan p, so many days back, or else what the day opened with
abbrev pub closes : ℕ → ℕ → Option EventInForce → Option Event → Option EventInForce
closes p back opening (Some e) = Some (event_of p back e)
closes p back opening None = opening

-- the closing event of the day before, while days are left
unfoldable pub opening_within : Timetable → ℤ → ℕ → Option EventInForce
opening_within z d zero = None
opening_within z d (suc left) =
    closes (plan_on z (d -ℤ pos 1)) (7 - left) (opening_within z (d -ℤ pos 1) left) (latest_of (events_on z (d -ℤ pos 1)))

-- the day's latest event, or what it opened with
abbrev pub closing_within : Timetable → ℤ → ℕ → Option EventInForce
closing_within z d left = closes (plan_on z d) (7 - left) (opening_within z d left) (latest_of (events_on z d))

-- with seven days left, opening by closing is the latest event of the nearest day before that has one
abbrev pub OpeningsMean : Type 0
OpeningsMean = (z : Timetable) (d : ℤ) → opening_within z d 7 ≡ opening_of z d
