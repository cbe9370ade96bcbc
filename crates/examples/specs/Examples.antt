-- The worked examples as one list. Assumes nothing.
use Rattle.std.specs.Prelude.{◌≡◌, ℕ, List, [], ◌∷◌, map, pos, negsuc}
use Rattle.calendar.specs.Dates.{IsDate}
use Rattle.localtime.specs.Local.{day_of}
use Rattle.localtime.specs.Weekdays.{weekday_of}
use Rattle.tables.specs.Cells.{cell_at, timetable}
use Rattle.schedule.specs.RowInForce.{row_on, row_number}
use Rattle.schedule.specs.Looks.{look_at}
use Rattle.summer.specs.Examples.{Examples as Summers}
use Rattle.summer.specs.Laws.{europe}
use Rattle.examples.specs.Table.{cells, seconds, worked}
use Rattle.examples.specs.Orders.{OrdersStop, ordered, orders, ran_on}

-- row 1 is for all months with date 21, row 2 for June with all dates; both on every weekday
abbrev pub midsummer : List ℕ
midsummer = 43200 ∷ 0 ∷ 8190 ∷ 254 ∷ 2097152 ∷ 1 ∷ 64 ∷ 254 ∷ 4294967294 ∷ 2 ∷ []

pub record Examples : Type 0 where
  -- on the table: local time goes back at the end of summer; Christmas has a row of its own, and its event stays until the next morning
  pub looks : map (look_at cells europe) seconds ≡ worked
  -- America at offset -18,000 runs from 1710054000 until 1730613600
  pub summers : Summers
  -- with no cells at all the offset is -43,200 and summer time is off: second 0 falls on Wednesday, 31 December 1969
  pub west : (look_at [] europe 0).local_time ≡ negsuc 43199
  pub before : day_of (negsuc 43199) ≡ negsuc 0
  pub wednesday : weekday_of (negsuc 0) ≡ 4
  pub december : IsDate (negsuc 0) 1969 12 31
  -- on 21 June a row for June with all dates beats a row for all months with date 21
  pub june : IsDate (pos 19895) 2024 6 21
  pub midsummer : row_number (row_on (timetable (cell_at midsummer)).rows (pos 19895)) ≡ 2
  -- orders on any cells: 01 40 is accepted, 01 30 is not checked, the others are no orders
  pub orders : (made : List ℕ) → map (ran_on made) orders ≡ ordered
  -- a refusal in the middle of an order, and an order during an edit
  pub stops : OrdersStop
