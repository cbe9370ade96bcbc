-- Local time, boundaries, and the last second before the next one. Assumes nothing.
use Rattle.std.specs.Prelude.{ℕ, ◌-◌, ◌*◌, Bool, false, ◌&&◌, ◌||◌, List, [], ◌∷◌, ℤ, Some, None, Option, ◌==◌}
use Rattle.localtime.specs.Local.{local_time_of, day_of, time_of}
use Rattle.keeper.specs.Least.{least_later, changes}
use Rattle.tables.specs.declared.event.Event.{Event}

-- what local time and boundaries depend on: the zone, whether summer time is on, the rule in that zone, and each day's counting events
pub record Setting : Type 0 where
  pub offset : ℤ
  pub summer : Bool
  pub in_force : ℕ → Bool
  pub events_on : ℤ → List Event

-- the second plus the offset, plus an hour if summer time is on and in force
unfoldable pub local_at : Setting → ℕ → ℤ
local_at z t = local_time_of t z.offset (z.summer && z.in_force t)

-- the local day
unfoldable pub day_at : Setting → ℕ → ℤ
day_at z t = day_of (local_at z t)

-- the second of the local day
unfoldable pub time_at : Setting → ℕ → ℕ
time_at z t = time_of (local_at z t)

-- today's counting events
abbrev pub events_at : Setting → ℕ → List Event
events_at z t = z.events_on (day_at z t)

-- one of the events starts at this second of the day
unfoldable pub starts_now : List Event → ℕ → Bool
starts_now [] s = false
starts_now (e ∷ es) s = e.minute * 60 == s || starts_now es s

-- the local time of day is 00:00:00, or one of today's events starts, or the rule changes while summer time is on
unfoldable pub boundary : Setting → ℕ → Bool
boundary z t = time_at z t == 0 || (starts_now (events_at z t) (time_at z t) || (z.summer && changes z.in_force t))

-- the second before the next boundary, or the last second of all
abbrev pub before_next : Option ℕ → ℕ
before_next (Some n) = n - 1
before_next None = 4294967295

unfoldable pub last_of : Setting → ℕ → ℕ
last_of z t = before_next (least_later (boundary z) t 4294967295)
