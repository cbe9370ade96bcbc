-- The image: cells in sequence at the layout's widths, high byte first. Assumes nothing.
use Rattle.std.specs.Prelude.{◌≡◌, ℕ, zero, suc, ◌/◌, ◌%◌, ◌^◌, ◌<◌, ◌≤◌, cond, ◌⊎◌, List, [], ◌∷◌, ◌++◌, length, take, drop, nat_le, slice_index}
use Rattle.layout.specs.Layout.{cell_count, width}
use Rattle.std.specs.Int.Digits.{number_from_digits}

-- a number in n bytes, high byte first
unfoldable pub bytes_of : ℕ → ℕ → List ℕ
bytes_of zero v = []
bytes_of (suc n) v = bytes_of n (v / 256) ++ (v % 256 ∷ [])

-- the cells as bytes, from cell c on, at the widths w
unfoldable pub encode_from : (ℕ → ℕ) → ℕ → List ℕ → List ℕ
encode_from w c [] = []
encode_from w c (v ∷ vs) = bytes_of (w c) v ++ encode_from w (suc c) vs

-- the cells in some bytes, from cell c on: whole ones, at most n
unfoldable pub cells_from : (ℕ → ℕ) → ℕ → ℕ → List ℕ → List ℕ
cells_from w zero c bs = []
cells_from w (suc n) c bs = cond (nat_le (w c) (length bs)) (number_from_digits 256 (take (w c) bs) ∷ cells_from w n (suc c) (drop (w c) bs)) []

-- and the bytes past the last of them
unfoldable pub rest_from : (ℕ → ℕ) → ℕ → ℕ → List ℕ → List ℕ
rest_from w zero c bs = bs
rest_from w (suc n) c bs = cond (nat_le (w c) (length bs)) (rest_from w n (suc c) (drop (w c) bs)) bs

-- the image of some cells
abbrev pub image_of : List ℕ → List ℕ
image_of vs = encode_from width 0 vs

-- the cells in a memory of bytes
abbrev pub image_cells : List ℕ → List ℕ
image_cells bs = cells_from width cell_count 0 bs

-- the bytes past the last cell
abbrev pub image_rest : List ℕ → List ℕ
image_rest bs = rest_from width cell_count 0 bs

-- they are bytes
abbrev pub Bytes : List ℕ → Type 0
Bytes bs = (k : ℕ) → slice_index bs k < 256

-- each value fits the layout's width of its cell
abbrev pub Fitting : List ℕ → Type 0
Fitting vs = (c : ℕ) → slice_index vs c < 256 ^ width c

-- cells, and bytes that hold no further whole cell
pub record Ended (vs rest : List ℕ) : Type 0 where
  pub few : length vs ≤ cell_count
  pub ended : (length vs ≡ cell_count) ⊎ (length rest < width (length vs))

-- cells that fit are decoded from their image as they were, alone and before bytes that hold no further whole cell
pub record Faithful (vs : List ℕ) : Type 0 where
  pub alone : Fitting vs → length vs ≤ cell_count → image_cells (image_of vs) ≡ vs
  pub before : (rest : List ℕ) → Fitting vs → Ended vs rest → (image_cells (image_of vs ++ rest) ≡ vs) × (image_rest (image_of vs ++ rest) ≡ rest)
