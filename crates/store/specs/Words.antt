-- One cell in each 32-bit word of a memory, from its first on. Assumes nothing.
use Rattle.std.specs.Prelude.{ℕ, ◌^◌, ◌<◌, List, take, drop, slice_index}
use Rattle.layout.specs.Layout.{cell_count}

-- as many as fit, at most the cells of the layout
unfoldable pub word_cells : List ℕ → List ℕ
word_cells ws = take cell_count ws

-- the words past the last cell
unfoldable pub word_rest : List ℕ → List ℕ
word_rest ws = drop cell_count ws

-- a word has four bytes
abbrev pub word_width : ℕ → ℕ
word_width c = 4

-- they are 32-bit words
abbrev pub Words : List ℕ → Type 0
Words ws = (k : ℕ) → slice_index ws k < 2 ^ 32
