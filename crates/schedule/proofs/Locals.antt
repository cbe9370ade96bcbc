-- How far local time and its day can lie from a second.
use Rattle.std.proofs.Common.{ℕ, ◌<◌, Bool, true, false, ℤ, pos, negsuc, ◌≤ℤ◌, arith}
use borrow.Author.Differences.{ints}
use Rattle.localtime.specs.Local.{local_time_of}

pub bounded : (s : ℕ) (o : ℤ) (b : Bool) → s < 4294967296 → negsuc 43199 ≤ℤ o → o ≤ℤ pos 43200
    → (negsuc 43199 ≤ℤ local_time_of s o b) × (local_time_of s o b ≤ℤ pos 4295014095)
unfolding local_time_of
bounded s o true h w e = (omega (arith, ints), omega (arith, ints))
bounded s o false h w e = (omega (arith, ints), omega (arith, ints))
