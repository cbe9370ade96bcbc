-- What the cells say: zone, summer time, the rows and the events that count. Assumes nothing.
use Rattle.std.specs.Prelude.{◌≡◌, ℕ, ◌+◌, ◌<◌, Bool, cond, ◌&&◌, List, [], map, ℤ, pos, negsuc, ◌-ℤ◌, ◌≤ℤ◌, Some, None, Option, ◌==◌, nat_le, nat_lt, slice_index_or}
use Rattle.std.specs.List.{range_with_len}
pub use Rattle.layout.specs.Layout.{cell_at}
use Rattle.layout.specs.Layout.{cell_count, row_cell, event_cell, event_counts, start_minute}
use Rattle.tables.specs.Bits.{bits_in}
use Rattle.tables.specs.Numbered.{numbered}
use Rattle.tables.specs.declared.row.Row.{Row}
use Rattle.tables.specs.declared.event.Event.{Event}

-- at most twelve hours either way
pub record InZone (offset : ℤ) : Type 0 where
  pub west : negsuc 43199 ≤ℤ offset
  pub east : offset ≤ℤ pos 43200

-- the zone cell less 43,200, or 0 if it exceeds 86,400
abbrev pub offset_of : ℕ → ℤ
offset_of zone = cond (nat_le zone 86400) (pos zone -ℤ pos 43200) (pos 0)

-- a row as its four cells have it; bits out of range do not count
abbrev pub row_of : ℕ → ℕ → ℕ → ℕ → ℕ → Row
row_of number months weekdays dates plan =
    record {
      number = number;
      months = months;
      weekdays = weekdays;
      dates = dates;
      plan = plan;
      counts = record { months = bits_in 12 months; dates = bits_in 31 dates; weekdays = bits_in 7 weekdays };
    }

-- each mask has at least one of its bits, and the plan is 1 to 16
abbrev pub row_counts : Row → Bool
row_counts row =
    nat_lt 0 row.counts.months && (nat_lt 0 row.counts.weekdays && (nat_lt 0 row.counts.dates && (nat_lt 0 row.plan && nat_le row.plan 16)))

abbrev pub counting_row : Row → Option Row
counting_row row = cond (row_counts row) (Some row) None

-- row r, where it counts
abbrev pub row_at : (ℕ → ℕ) → ℕ → Option Row
row_at cell r = counting_row (row_of r (cell (row_cell r)) (cell (row_cell r + 1)) (cell (row_cell r + 2)) (cell (row_cell r + 3)))

abbrev pub counting_event : ℕ → ℕ → ℕ → ℕ → Option Event
counting_event number hour minute tariff =
    cond (event_counts hour minute tariff) (Some (record { number = number; minute = start_minute hour minute; tariff = tariff })) None

-- event e of plan p, where it counts
abbrev pub event_at : (ℕ → ℕ) → ℕ → ℕ → Option Event
event_at cell p e = counting_event e (cell (event_cell p e)) (cell (event_cell p e + 1)) (cell (event_cell p e + 2))

-- the counting events of a plan in ascending number; plan 0 has none
abbrev pub plan_at : (ℕ → ℕ) → ℕ → List Event
plan_at cell p = cond (p == 0) [] (numbered (event_at cell p) 12)

-- all plans, each at its number
unfoldable pub plans_at : (ℕ → ℕ) → List (List Event)
plans_at cell = map (plan_at cell) (range_with_len 0 17)

-- what looks go by
pub record Timetable : Type 0 where
  pub offset : ℤ
  pub summer : Bool
  pub rows : List Row
  pub plans : List (List Event)

-- the same, as the cells have it: summer time is on only where cell 1 is 1
unfoldable pub timetable : (ℕ → ℕ) → Timetable
timetable cell =
    record {
      offset = offset_of (cell 0);
      summer = (cell 1 == 1);
      rows = numbered (row_at cell) 32;
      plans = plans_at cell;
    }

-- the counting events of a plan
unfoldable pub events_of : Timetable → ℕ → List Event
events_of z p = slice_index_or z.plans p []

-- cells that are the same up to the last give the same timetable
abbrev pub SameCells : Type 0
SameCells = (cell other : ℕ → ℕ) → ((c : ℕ) → c < cell_count → cell c ≡ other c) → timetable cell ≡ timetable other
