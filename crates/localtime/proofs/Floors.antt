-- Where a local time falls.
use Rattle.std.proofs.Common.{◌≡◌, ℕ, ℤ, pos, negsuc, arith}
use borrow.Author.Differences.{ints}
use Rattle.localtime.specs.Local.{day_of, time_of, Falls}

pub falls : (t : ℤ) → Falls t (day_of t) (time_of t)
unfolding day_of time_of
falls (pos a) = record { whole = omega (arith, ints); below = omega (arith, ints) }
falls (negsuc a) = record { whole = omega (arith, ints); below = omega (arith, ints) }

-- there is only one such day and second
pub only : (t d : ℤ) (u : ℕ) → Falls t d u → (d ≡ day_of t) × (u ≡ time_of t)
only t d u f =
    let g = falls t in
    let e : d ≡ day_of t = omega (arith, ints) in
    (e, omega (arith, ints))
