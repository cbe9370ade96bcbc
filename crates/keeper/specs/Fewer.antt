-- The order of a row's counts: months first, then dates, then weekdays. Assumes nothing.
use Rattle.std.specs.Prelude.{ℕ, Bool, cond, ◌==◌, nat_lt}

-- fewer months, or as many and fewer dates, or as many of both and fewer weekdays
abbrev pub fewer : ℕ → ℕ → ℕ → ℕ → ℕ → ℕ → Bool
fewer m d w m' d' w' = cond (m == m') (cond (d == d') (nat_lt w w') (nat_lt d d')) (nat_lt m m')
