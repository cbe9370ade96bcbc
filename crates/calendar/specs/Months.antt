-- Months of the Gregorian calendar, counted from December 1969, which is 0: January 1970 is 1. Assumes nothing.
use Rattle.std.specs.Prelude.{◌≡◌, ℕ, zero, suc, ◌+◌, ◌/◌, ◌%◌, ◌<◌, Bool, true, false, cond, List, length, ℤ, pos, negsuc, ◌+ℤ◌, Some, None, Option, ◌==◌, nat_lt, slice_index_or}

-- a leap year: every fourth, but of the hundreds only every fourth
abbrev pub leap : ℕ → Bool
leap y = cond (y % 400 == 0) true (cond (y % 100 == 0) false (y % 4 == 0))

-- the days of a month, 1 to 12, of a year
abbrev pub length_of : ℕ → ℕ → ℕ
length_of y m =
    cond (m == 2) (cond (leap y) 29 28)
    (cond (m == 4) 30 (cond (m == 6) 30 (cond (m == 9) 30 (cond (m == 11) 30 31))))

-- the year and the month, 1 to 12, at a place
abbrev pub year_at : ℕ → ℕ
year_at k = 1969 + (k + 11) / 12

abbrev pub month_at : ℕ → ℕ
month_at k = (k + 11) % 12 + 1

unfoldable pub length_at : ℕ → ℕ
length_at k = length_of (year_at k) (month_at k)

-- December 1969 begins at day -31, and each month where the one before ends
unfoldable pub month_first_of : ℕ → ℤ
month_first_of zero = negsuc 30
month_first_of (suc k) = month_first_of k +ℤ pos (length_at k)

-- the first of the month at a place, up to March 2106
abbrev pub first_at : ℕ → Option ℤ
first_at k = cond (nat_lt k 1636) (Some (month_first_of k)) None

-- the table has all 1,636 month firsts, each in its place
pub record MonthFirsts (xs : List ℤ) : Type 0 where
  pub size : length xs ≡ 1636
  pub entry : (k : ℕ) → k < 1636 → slice_index_or xs k (pos 0) ≡ month_first_of k
