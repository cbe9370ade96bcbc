-- A law that gives each year one span of summer time. Year 0 is 1970. Assumes nothing.
use Rattle.std.specs.Prelude.{ℕ, zero, suc, ◌+◌, ◌*◌, ◌<◌, ◌≤◌, Bool, false, ◌&&◌, ◌||◌, ℤ, pos, ◌≤ℤ◌, ◌<ℤ◌, int_le, int_lt}

-- some year before the year n has it
unfoldable pub some_year : (ℕ → Bool) → ℕ → Bool
some_year p zero = false
some_year p (suc n) = p n || some_year p n

-- summer time at the moment t: in some year from 1970 to 2106 it has begun and not ended
abbrev pub summer_at : (ℕ → ℕ) → (ℕ → ℕ) → ℤ → Bool
summer_at from until t = some_year (λ k. int_le (pos (from k)) t && int_lt t (pos (until k))) 137

-- the moment of an hour on a day
abbrev pub hour_on : ℕ → ℕ → ℕ
hour_on day hour = day * 86400 + hour * 3600

-- from an hour of the day that Begins tells until an hour of the day that Ends tells, in one of the years 1970 to 2106
pub record InSomeYear (Begins : ℕ → ℕ → Type 0) (begin_hour : ℕ) (Ends : ℕ → ℕ → Type 0) (end_hour : ℕ) (t : ℤ) : Type 0 where
  pub year : ℕ
  pub known : year ≤ 136
  pub first : ℕ
  pub begins : Begins year first
  pub last : ℕ
  pub ends : Ends year last
  pub begun : pos (hour_on first begin_hour) ≤ℤ t
  pub lasting : t <ℤ pos (hour_on last end_hour)

-- summers and winters last thirty days or longer; at every offset that of 2105 ends at a second of 32 bits, and that of 2106 begins past them
pub record Ascending (from until : ℕ → ℕ) : Type 0 where
  pub opens : (k : ℕ) → from k + 2592000 ≤ until k
  pub closes : (k : ℕ) → until k + 2592000 ≤ from (k + 1)
  pub near : until 135 ≤ 4294924095
  pub past : 4295010496 < from 136

-- y is the first year whose summer has not ended at t
pub record Current (until : ℕ → ℕ) (t : ℤ) (y : ℕ) : Type 0 where
  pub few : y ≤ 136
  pub before : (k : ℕ) → k < y → pos (until k) ≤ℤ t
  pub here : t <ℤ pos (until y)
