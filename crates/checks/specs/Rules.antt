-- The rules that committed tables keep, and the first fault of some tables. Assumes nothing.
use Rattle.std.specs.Prelude.{ℕ, ◌+◌, ◌-◌, Bool, not, ◌&&◌, ◌||◌, List, [], ◌∷◌, ◌++◌, map, Option, ◌==◌}
use Rattle.std.specs.List.{list_any}
use Rattle.std.specs.Option.{option_map}
use Rattle.layout.specs.Layout.{in_range, row_cell, event_cell, event_counts, start_minute, cell_count, row_count, plan_count, event_count}
use Rattle.checks.specs.declared.fault.Fault.{Fault}
use Rattle.checks.specs.Words.{numbers, first_failing, IsFirst}
use Rattle.refusal.specs.declared.refusal.Refusal.{Refusal}
use Rattle.refusal.specs.declared.refusal.Refusal.TheVariants.{Inconsistent}
use Rattle.refusal.specs.declared.rule.Rule.TheVariants.{CellInRange, RowWhole, RowServed, StartAlone}

-- the tables: what is read in each cell
module _ (t : ℕ → ℕ) where
  -- an event of a plan counts
  abbrev pub counts : ℕ → ℕ → Bool
  counts p e = event_counts (t (event_cell p e)) (t (event_cell p e + 1)) (t (event_cell p e + 2))

  -- the minute of the day in which it starts
  abbrev pub start_of : ℕ → ℕ → ℕ
  start_of p e = start_minute (t (event_cell p e)) (t (event_cell p e + 1))

  -- all four cells of a row are 0
  abbrev pub all_zero : ℕ → Bool
  all_zero r = (t (row_cell r) == 0 && t (row_cell r + 1) == 0) && (t (row_cell r + 2) == 0 && t (row_cell r + 3) == 0)

  -- none of them is
  abbrev pub none_zero : ℕ → Bool
  none_zero r = (not (t (row_cell r) == 0) && not (t (row_cell r + 1) == 0)) && (not (t (row_cell r + 2) == 0) && not (t (row_cell r + 3) == 0))

  -- rule 2: a row is all zero, or has three masks and a plan that are not zero
  abbrev pub row_whole : ℕ → Bool
  row_whole r = all_zero r || none_zero r

  -- a plan has a counting event
  unfoldable pub plan_counts : ℕ → Bool
  plan_counts p = list_any (counts p) (numbers 1 event_count)

  -- rule 3: a row's plan is 0 or has a counting event
  abbrev pub row_served : ℕ → Bool
  row_served r = t (row_cell r + 3) == 0 || plan_counts (t (row_cell r + 3))

  -- an event d counts and starts in the same minute as e
  abbrev pub clashes : ℕ → ℕ → ℕ → Bool
  clashes p e d = counts p d && start_of p d == start_of p e

  -- an earlier counting event of the plan starts in the same minute
  unfoldable pub starts_twice : ℕ → ℕ → Bool
  starts_twice p e = list_any (clashes p e) (numbers 1 (e - 1))

  -- rule 4: an event that counts starts in a minute of its own
  abbrev pub starts_alone : ℕ → ℕ → Bool
  starts_alone p e = not (counts p e && starts_twice p e)

-- what is examined: each cell, each row, each row's plan, each event
pub data Place : Type 0 where
  cell_at : ℕ → Place
  row_at : ℕ → Place
  plan_of : ℕ → Place
  event_at : ℕ → ℕ → Place

-- whether it keeps its rule
abbrev pub good : (ℕ → ℕ) → Place → Bool
good t (cell_at c) = in_range c (t c)
good t (row_at r) = row_whole t r
good t (plan_of r) = row_served t r
good t (event_at p e) = starts_alone t p e

-- the rule and the cell that are named where it is not good
abbrev pub named : Place → Fault
named (cell_at c) = record { rule = CellInRange; cell = c }
named (row_at r) = record { rule = RowWhole; cell = row_cell r }
named (plan_of r) = record { rule = RowServed; cell = row_cell r }
named (event_at p e) = record { rule = StartAlone; cell = event_cell p e }

abbrev pub cell_places : List Place
cell_places = map cell_at (numbers 0 cell_count)

abbrev pub row_places : List Place
row_places = map row_at (numbers 1 row_count)

abbrev pub plan_places : List Place
plan_places = map plan_of (numbers 1 row_count)

-- the events of some plans
unfoldable pub event_places : List ℕ → List Place
event_places [] = []
event_places (p ∷ ps) = map (event_at p) (numbers 1 event_count) ++ event_places ps

-- rules in their sequence, places ascending
abbrev pub places : List Place
places = cell_places ++ (row_places ++ (plan_places ++ event_places (numbers 1 plan_count)))

-- the first fault of the tables, or none
unfoldable pub first_fault : (ℕ → ℕ) → Option Fault
first_fault t = option_map named (first_failing (good t) places)

-- what that means: the fault is of the first place, in their sequence, that is not good; with none, every place is good
abbrev pub FirstPlace : (ℕ → ℕ) → Type 0
FirstPlace t = IsFirst (good t) places (first_failing (good t) places)

-- the refusal that names a fault
abbrev pub refused_for : Fault → Refusal
refused_for f = Inconsistent f.rule f.cell
