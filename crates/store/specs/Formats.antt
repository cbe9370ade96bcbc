-- How cells lie in a memory. Assumes nothing.
use Rattle.std.specs.Prelude.{ℕ, ◌≤◌, List, length}
use Rattle.layout.specs.Layout.{cell_count, width as layout_width}

-- what every format keeps
pub record FormatLaws {U : Type 0} (cells : List U → List ℕ) (width : ℕ → ℕ) : Type 0 where
  -- at most the cells of the layout
  pub few : (us : List U) → length (cells us) ≤ cell_count
  -- no width less than the layout's
  pub wide : (c : ℕ) → layout_width c ≤ width c
