-- The quick way to a cell's place is right: no sum over the cells before it.
use Rattle.std.proofs.Common.{◌≡◌, ℕ, zero, suc, ◌+◌, ◌-◌, ◌*◌, ◌/◌, ◌%◌, cond, eqb, ltb, refl, arith}
use Rattle.layout.specs.Layout.{cell_count, field_of, image_size, place_of, width}
use Rattle.std.proofs.lemmas.Bool.Decides.{nat_tests}

-- the bytes of a row before its k-th cell, from 0
abbrev row_part : ℕ → ℕ
row_part k = cond (eqb k 0) 0 (cond (eqb k 1) 2 (cond (eqb k 2) 3 7))

-- 5 bytes, rows of 8 bytes, then events of 3 bytes
abbrev pub quick_place : ℕ → ℕ
quick_place c =
    cond (ltb c 2) (4 * c)
    (cond (ltb c 130) (5 + 8 * ((c - 2) / 4) + row_part ((c - 2) % 4)) (261 + 3 * ((c - 130) / 3) + (c - 130) % 3))

step : (c : ℕ) → quick_place (suc c) ≡ quick_place c + width c
unfolding field_of
step c = grind (arith, nat_tests)

pub place_is : (c : ℕ) → place_of c ≡ quick_place c
unfolding place_of
place_is zero = refl
place_is (suc c) = let h = place_is c in let s = step c in omega arith

pub full : place_of cell_count ≡ image_size
full = place_is cell_count
