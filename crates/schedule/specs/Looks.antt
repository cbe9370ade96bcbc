-- The whole look, for any timetable, any rule and any second. Assumes nothing.
use Rattle.std.specs.Prelude.{◌≡◌, ℕ, ◌≤◌, Bool, List, ℤ, pos, negsuc, ◌+ℤ◌, ◌≤ℤ◌}
use Rattle.std.specs.Option.{unwrap_or}
use Rattle.tables.specs.Cells.{Timetable, cell_at, timetable}
use Rattle.schedule.specs.RowInForce.{row_on, row_number}
use Rattle.schedule.specs.Plans.{plan_on, events_on}
use Rattle.schedule.specs.EventInForce.{event_in_force, no_event}
use Rattle.schedule.specs.Boundaries.{Setting, local_at, day_at, time_at, last_of}
use Rattle.schedule.specs.declared.shown.EventInForce.{EventInForce}
use Rattle.schedule.specs.declared.answer.Look.{Look}

-- a rule: for each offset and each second, in force or not
abbrev pub Rule : Type 0
Rule = ℤ → ℕ → Bool

-- what local time and boundaries depend on, under a rule
abbrev pub setting_of : Timetable → Rule → Setting
setting_of z f = record { offset = z.offset; summer = z.summer; in_force = f z.offset; events_on = events_on z }

abbrev pub showing : ℤ → ℕ → ℕ → EventInForce → ℕ → Look
showing local row plan e last =
    record {
      local_time = local;
      row = row;
      plan = plan;
      event_plan = e.plan;
      event = e.number;
      days_back = e.days_back;
      tariff = e.tariff;
      last_second = last;
    }

-- local time, row and plan of its day, the event in force then or zeros for none, and the last second before the next boundary
unfoldable pub look_of : Timetable → Rule → ℕ → Look
look_of z f t =
    showing (local_at (setting_of z f) t) (row_number (row_on z.rows (day_at (setting_of z f) t))) (plan_on z (day_at (setting_of z f) t))
    (unwrap_or (event_in_force z (day_at (setting_of z f) t) (time_at (setting_of z f) t)) no_event) (last_of (setting_of z f) t)

-- the look of a list of cells
abbrev pub look_at : List ℕ → Rule → ℕ → Look
look_at cells f t = look_of (timetable (cell_at cells)) f t

-- the same look, n seconds on
abbrev pub onward : ℕ → Look → Look
onward n l =
    record {
      local_time = l.local_time +ℤ pos n;
      row = l.row;
      plan = l.plan;
      event_plan = l.event_plan;
      event = l.event;
      days_back = l.days_back;
      tariff = l.tariff;
      last_second = l.last_second;
    }

-- two rules mean the same, for every offset within 43,200 either way and every second
abbrev pub SameRule : Rule → Rule → Type 0
SameRule f g = (o : ℤ) (s : ℕ) → negsuc 43199 ≤ℤ o → o ≤ℤ pos 43200 → s ≤ 4294967295 → f o s ≡ g o s
