-- Weekdays, 1 for Sunday to 7 for Saturday. Assumes nothing.
use Rattle.std.specs.Prelude.{◌≡◌, ℕ, ◌+◌, cond, ℤ, pos, ◌+ℤ◌, ◌==◌, unsigned_abs}
use Rattle.std.specs.Int.{int_rem_euclid}

-- the weekday of a day: they come round every seven days, and day 0 is a Thursday
unfoldable pub weekday_of : ℤ → ℕ
weekday_of n = unsigned_abs (int_rem_euclid (n +ℤ pos 4) (pos 7)) + 1

-- what that says: Thursday at day 0, and each day the weekday after that of the day before
pub record WeekdaysTurn : Type 0 where
  pub thursday : weekday_of (pos 0) ≡ 5
  pub next : (n : ℤ) → weekday_of (n +ℤ pos 1) ≡ cond (weekday_of n == 7) 1 (weekday_of n + 1)
