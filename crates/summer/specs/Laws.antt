-- The European and the American law of summer time. Assumes nothing.
use Rattle.std.specs.Prelude.{ℕ, ◌+◌, ◌*◌, Bool, ℤ, pos, ◌+ℤ◌}
use Rattle.summer.specs.Zone.{zone}
use Rattle.summer.specs.Sundays.{IsLastSunday, IsFirstSunday, IsSecondSunday, first_sunday, last_sunday}
use Rattle.summer.specs.Years.{InSomeYear, hour_on, summer_at}

-- the month, from January 1970, that is March, October or November of a year
abbrev pub march : ℕ → ℕ
march k = 12 * k + 2

abbrev pub october : ℕ → ℕ
october k = 12 * k + 9

abbrev pub november : ℕ → ℕ
november k = 12 * k + 10

-- local standard time at an offset
abbrev pub standard_time : ℤ → ℕ → ℤ
standard_time o s = pos s +ℤ zone o

-- Europe: from 01:00 UTC on the last Sunday of March until 01:00 UTC on the last Sunday of October
abbrev pub EuropeanSummer : ℕ → Type 0
EuropeanSummer s = InSomeYear (λ k. IsLastSunday (march k)) 1 (λ k. IsLastSunday (october k)) 1 (pos s)

-- America: from 02:00 local standard time on the second Sunday of March until 01:00 local standard time on the first Sunday of November
abbrev pub AmericanSummer : ℤ → ℕ → Type 0
AmericanSummer o s = InSomeYear (λ k. IsSecondSunday (march k)) 2 (λ k. IsFirstSunday (november k)) 1 (standard_time o s)

-- the same as tests, by the moments at which each year's summer begins and ends
abbrev pub europe_from : ℕ → ℕ
europe_from k = hour_on (last_sunday (march k)) 1

abbrev pub europe_until : ℕ → ℕ
europe_until k = hour_on (last_sunday (october k)) 1

abbrev pub america_from : ℕ → ℕ
america_from k = hour_on (first_sunday (march k) + 7) 2

abbrev pub america_until : ℕ → ℕ
america_until k = hour_on (first_sunday (november k)) 1

abbrev pub europe : ℤ → ℕ → Bool
europe o s = summer_at europe_from europe_until (pos s)

abbrev pub america : ℤ → ℕ → Bool
america o s = summer_at america_from america_until (standard_time o s)
