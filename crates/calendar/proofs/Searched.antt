-- The month of a day, searched in the table of month firsts.
use Rattle.std.proofs.Common.{◌≡◌, ℕ, ◌+◌, ◌-◌, ◌<◌, ◌≤◌, true, false, List, length, get_or, ℤ, pos, negsuc, ◌≤ℤ◌, ◌<ℤ◌, ◌∙◌, arith}
use borrow.Author.Differences.{ints}
use lib.Signed.{le_z}
use Rattle.std.specs.List.Sorted.{IsPartitionedBy, IsPartitionPoint}
use Rattle.std.proofs.lemmas.List.{get_or_default}
use Rattle.calendar.specs.Months.{MonthFirsts, month_first_of}
use Rattle.calendar.proofs.MonthPlaces.{begins, ends, climbs}

module _ (xs : List ℤ) (table : MonthFirsts xs) (n : ℤ) where
  entry : (k : ℕ) (d : ℤ) → k < length xs → get_or xs k d ≡ month_first_of k
  entry k d h = let s = table.size in get_or_default xs k d (pos 0) h ∙ table.entry k (omega arith)

  -- the firsts rise, so those that are not later stand in front
  pub parted : IsPartitionedBy (λ y. le_z y n) xs
  parted i j d h l e =
      let a = entry i d (omega arith) in
      let b = entry j d l in
      let c = climbs i j h in
      grind (arith, ints)

  module _ (r : ℕ) (within : r ≤ length xs) (point : IsPartitionPoint (λ y. le_z y n ≡ true) (λ y. le_z y n ≡ false) xs r) where
    not_later : (k : ℕ) → k < r → month_first_of k ≤ℤ n
    not_later k h = let e = point.0 k (pos 0) (omega arith) h in let a = entry k (pos 0) (omega arith) in grind (arith, ints)

    later : (k : ℕ) → r ≤ k → k < length xs → n <ℤ month_first_of k
    later k h l = let e = point.1 k (pos 0) h l in let a = entry k (pos 0) l in grind (arith, ints)

    module _ (from : negsuc 30 ≤ℤ n) (to : n <ℤ pos 49732) where
      pub some : 1 ≤ r
      some =
          let s = table.size in let b = begins in
          let none : r ≡ 0 → ⊥ = λ e. let l = later 0 (omega arith) (omega arith) in omega (arith, ints) in
          omega arith

      pub not_all : r - 1 < 1635
      not_all =
          let s = table.size in let b = ends in
          let all : 1635 < r → ⊥ = λ h. let l = not_later 1635 h in omega (arith, ints) in
          omega arith

      pub begun : month_first_of (r - 1) ≤ℤ n
      begun = let h = some in not_later (r - 1) (omega arith)

      pub open_after : n <ℤ month_first_of (r - 1 + 1)
      open_after =
          let h = some in let g = not_all in let s = table.size in
          later (r - 1 + 1) (omega arith) (omega arith)
