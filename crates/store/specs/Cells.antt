-- What a store means: a list of cells, what Get and Put answer, and what a Put makes of the cells. Assumes nothing.
use Rattle.std.specs.Prelude.{◌≡◌, ℕ, ◌^◌, ◌<◌, ◌≤◌, true, cond, List, length, Ok, Err, Result, nat_lt, slice_index, slice_set}
use Rattle.layout.specs.Layout.{cell_count, in_range, width}
use Rattle.refusal.specs.declared.refusal.Refusal.TheVariants.{NoCell, BadValue}
use Rattle.refusal.specs.declared.refusal.Refusal.{Refusal}

-- Get answers the cell, if it is below the size
abbrev pub get_answer : List ℕ → ℕ → Result ℕ Refusal
get_answer cs c = cond (nat_lt c (length cs)) (Ok (slice_index cs c)) (Err NoCell)

-- Put takes a value for a cell below the size that its width in bytes holds
abbrev pub put_answer : List ℕ → (ℕ → ℕ) → ℕ → ℕ → Result (Unit {0}) Refusal
put_answer cs w c v = cond (nat_lt c (length cs)) (cond (nat_lt v (256 ^ w c)) (Ok tt) (Err BadValue)) (Err NoCell)

-- and makes that cell the value; refused, it changes nothing
abbrev pub put_cells : List ℕ → (ℕ → ℕ) → ℕ → ℕ → List ℕ
put_cells cs w c v = cond (nat_lt c (length cs)) (cond (nat_lt v (256 ^ w c)) (slice_set cs c v) cs) cs

-- what a store has beside its cells, which no Put changes: the bytes of each cell, the handed-over memory past the last one, and where that memory lies
pub record Memory : Type 0 where
  pub width : ℕ → ℕ
  pub rest : List ℕ
  pub home : List ℕ

-- what every store keeps
pub record StoreLaws {S : Type 0} (cells : S → List ℕ) (memory : S → Memory) : Type 0 where
  -- at most the cells of the layout
  pub few : (s : S) → length (cells s) ≤ cell_count
  -- no width less than the layout's
  pub wide : (s : S) (c : ℕ) → width c ≤ (memory s).width c
  -- so that each value in range fits
  pub range : (s : S) (c v : ℕ) → in_range c v ≡ true → v < 256 ^ (memory s).width c
