-- The layout of the cells: the field of each, its bytes and its values, and where rows, events and bytes stand. Assumes nothing.
use Rattle.std.specs.Prelude.{◌≡◌, ℕ, zero, suc, ◌+◌, ◌-◌, ◌*◌, ◌/◌, ◌%◌, ◌^◌, ◌≤◌, Bool, cond, ◌&&◌, Decides, ◌==◌, bit_and, List, nat_le, nat_lt, slice_index}
use Rattle.layout.specs.declared.field.Field.TheVariants.{Zone, Summer, Months, Weekdays, Dates, Plan, Hour, Minute, Tariff}
use Rattle.layout.specs.declared.field.Field.{Field}

-- the cells of a full store
abbrev pub cell_count : ℕ
cell_count = 706

-- the bytes of a full image
abbrev pub image_size : ℕ
image_size = 837

-- the rows
abbrev pub row_count : ℕ
row_count = 32

-- the day plans
abbrev pub plan_count : ℕ
plan_count = 16

-- the events of a plan
abbrev pub event_count : ℕ
event_count = 12

-- the largest tariff
abbrev pub largest_tariff : ℕ
largest_tariff = 255

-- the first cell of row r, from 1: months; then weekdays, dates and plan
abbrev pub row_cell : ℕ → ℕ
row_cell r = 2 + 4 * (r - 1)

-- the first cell of event e of plan p, both from 1: hour; then minute and tariff
abbrev pub event_cell : ℕ → ℕ → ℕ
event_cell p e = 130 + 36 * (p - 1) + 3 * (e - 1)

-- the field of the k-th cell of a row, from 0
abbrev pub row_field : ℕ → Field
row_field k = cond (k == 0) Months (cond (k == 1) Weekdays (cond (k == 2) Dates Plan))

-- the field of the k-th cell of an event, from 0
abbrev pub event_field : ℕ → Field
event_field k = cond (k == 0) Hour (cond (k == 1) Minute Tariff)

-- the field of a cell: zone, summer time, rows of 4 cells, then events of 3 cells.
-- It is shut: what cites it goes by the field and not by the number.
unfoldable pub field_of : ℕ → Field
field_of c =
    cond (c == 0) Zone
    (cond (c == 1) Summer
    (cond (nat_lt c 130) (row_field ((c - 2) % 4)) (event_field ((c - 130) % 3))))

-- the bytes of a field
abbrev pub width_of : Field → ℕ
width_of Zone = 4
width_of Summer = 1
width_of Months = 2
width_of Weekdays = 1
width_of Dates = 4
width_of Plan = 1
width_of Hour = 1
width_of Minute = 1
width_of Tariff = 1

-- a mask that has no bit but those of another
abbrev pub only : ℕ → ℕ → Bool
only bits v = bit_and v bits == v

-- the values of a field: months have only bits 1 to 12, weekdays only 1 to 7, dates only 1 to 31
abbrev pub allows : Field → ℕ → Bool
allows Zone v = nat_le v 86400
allows Summer v = nat_le v 1
allows Months v = only 8190 v
allows Weekdays v = only 254 v
allows Dates v = only 4294967294 v
allows Plan v = nat_le v plan_count
allows Hour v = nat_le v 23
allows Minute v = nat_le v 59
allows Tariff v = nat_le v largest_tariff

-- cell c of a list of cells, or 0 past its end
abbrev pub cell_at : List ℕ → ℕ → ℕ
cell_at cells c = slice_index cells c

-- the bytes of a cell
abbrev pub width : ℕ → ℕ
width c = width_of (field_of c)

-- the values of a cell
abbrev pub in_range : ℕ → ℕ → Bool
in_range c v = allows (field_of c) v

-- an event counts when hour and minute are in range and the tariff is 1 to the largest
abbrev pub event_counts : ℕ → ℕ → ℕ → Bool
event_counts hour minute tariff = (allows Hour hour && allows Minute minute) && (nat_le 1 tariff && allows Tariff tariff)

-- the minute of the day in which it starts
abbrev pub start_minute : ℕ → ℕ → ℕ
start_minute hour minute = 60 * hour + minute

-- the place of a cell's first byte: the bytes of the cells before it
unfoldable pub place_of : ℕ → ℕ
place_of zero = 0
place_of (suc c) = place_of c + width c

-- bit n, worth 2 to the power n, is set
abbrev pub Bit : ℕ → ℕ → Type 0
Bit n v = v / 2 ^ n % 2 ≡ 1

-- no bit is set but those from first to last
abbrev pub OnlyBits : ℕ → ℕ → ℕ → Type 0
OnlyBits first last v = (n : ℕ) → Bit n v → (first ≤ n) × (n ≤ last)

-- what the masks' ranges mean
pub record MaskRanges (v : ℕ) : Type 0 where
  pub months : Decides (allows Months v) (OnlyBits 1 12 v)
  pub weekdays : Decides (allows Weekdays v) (OnlyBits 1 7 v)
  pub dates : Decides (allows Dates v) (OnlyBits 1 31 v)

-- the fields of a row
pub record RowFields (r : ℕ) : Type 0 where
  pub months : field_of (row_cell r) ≡ Months
  pub weekdays : field_of (row_cell r + 1) ≡ Weekdays
  pub dates : field_of (row_cell r + 2) ≡ Dates
  pub plan : field_of (row_cell r + 3) ≡ Plan

-- the fields of an event
pub record EventFields (p e : ℕ) : Type 0 where
  pub hour : field_of (event_cell p e) ≡ Hour
  pub minute : field_of (event_cell p e + 1) ≡ Minute
  pub tariff : field_of (event_cell p e + 2) ≡ Tariff

-- where each field stands
pub record Positions : Type 0 where
  pub zone : field_of 0 ≡ Zone
  pub summer : field_of 1 ≡ Summer
  pub rows : (r : ℕ) → 1 ≤ r → r ≤ row_count → RowFields r
  pub events : (p e : ℕ) → EventFields p e
