-- The few seconds of which one is the next boundary: helpers, shown to have the least later boundary as their least.
use Rattle.std.specs.Prelude.{◌≡◌, ℕ, ◌+◌, ◌-◌, ◌*◌, cond, List, [], ◌∷◌, ◌++◌, None, Option, nat_le, nat_lt}
use Rattle.std.specs.List.{flat_map}
use Rattle.keeper.specs.Least.{least_later, changes}
use Rattle.tables.specs.Numbered.{alone}
use Rattle.schedule.specs.Boundaries.{Setting, time_at, events_at, last_of}
use Rattle.tables.specs.declared.event.Event.{Event}

-- a second past the last one is none
abbrev pub up_to : ℕ → List ℕ
up_to n = cond (nat_le n 4294967295) (n ∷ []) []

-- the start of an event that comes later in the day than the second s of the day, which is the second t
abbrev pub ahead : ℕ → ℕ → Event → List ℕ
ahead t s e = cond (nat_lt s (e.minute * 60)) (up_to (t + (e.minute * 60 - s))) []

-- the next midnight and the starts that come later in the day
unfoldable pub today : ℕ → ℕ → List Event → List ℕ
today t s events = up_to (t + (86400 - s)) ++ flat_map (ahead t s) events

-- these, and the rule's next change
abbrev pub candidates : ℕ → ℕ → List Event → Option ℕ → List ℕ
candidates t s events change = today t s events ++ alone change

-- the rule's next change, where summer time is on
unfoldable pub next_change : Setting → ℕ → Option ℕ
next_change z t = cond z.summer (least_later (changes z.in_force) t 4294967295) None

-- r is the last second of the look at t, wherever these are the second of the day, the day's events and the next change
abbrev pub LastFrom : ℕ → ℕ → List Event → Option ℕ → ℕ → Type 0
LastFrom t s events change r = (z : Setting) → s ≡ time_at z t → events ≡ events_at z t → change ≡ next_change z t → r ≡ last_of z t
