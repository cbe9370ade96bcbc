-- Why an image keeps the laws of a format.
use Rattle.std.specs.Prelude.{ℕ, zero, suc, ◌≤◌, List, [], ◌∷◌, length, take, drop, nat_le}
use Rattle.image.specs.Image.{cells_from, image_cells}
use Rattle.layout.specs.Layout.{cell_count, width}
use Rattle.std.proofs.lemmas.Bool.{cond_both}
use Rattle.std.specs.Int.Digits.{number_from_digits}
use Rattle.store.specs.Formats.{FormatLaws}
use Rattle.std.proofs.Common.{arith}

-- at most n cells
few_cells : (w : ℕ → ℕ) (n c : ℕ) (bs : List ℕ) → length (cells_from w n c bs) ≤ n
unfolding cells_from
few_cells w zero c bs = omega arith
few_cells w (suc n) c bs =
    let h = few_cells w n (suc c) (drop (w c) bs) in
    cond_both (nat_le (w c) (length bs)) (number_from_digits 256 (take (w c) bs) ∷ cells_from w n (suc c) (drop (w c) bs)) [] (λ x. length x ≤ suc n) (λ _. omega arith) (λ _. omega arith)

pub image_few : (bs : List ℕ) → length (image_cells bs) ≤ cell_count
image_few bs = few_cells width cell_count 0 bs

pub image_laws : FormatLaws image_cells width
image_laws = record {
  few = image_few;
  wide = λ c. omega arith;
}
