-- Local time, and the day and the second of the day on which it falls. Assumes nothing.
use Rattle.std.specs.Prelude.{◌≡◌, ℕ, ◌<◌, Bool, cond, ℤ, pos, ◌+ℤ◌, ◌*ℤ◌, unsigned_abs}
use Rattle.std.specs.Int.{int_div_euclid, int_rem_euclid}

-- the second plus the offset, and an hour more in summer; it may be negative
unfoldable pub local_time_of : ℕ → ℤ → Bool → ℤ
local_time_of s o summer = (pos s +ℤ o) +ℤ cond summer (pos 3600) (pos 0)

-- local time divided by a day's seconds, rounded down
unfoldable pub day_of : ℤ → ℤ
day_of t = int_div_euclid t (pos 86400)

-- the second of the day
unfoldable pub time_of : ℤ → ℕ
time_of t = unsigned_abs (int_rem_euclid t (pos 86400))

-- the local time t falls on the day d at the second u of that day
pub record Falls (t d : ℤ) (u : ℕ) : Type 0 where
  pub whole : t ≡ (d *ℤ pos 86400) +ℤ pos u
  pub below : u < 86400
