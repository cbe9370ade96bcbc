-- Stored runs: each is a length of four bytes, high byte first, and so many bytes. Assumes nothing.
use Rattle.std.specs.Prelude.{ℕ, Bool, cond, ◌&&◌, List, length, take, drop, Some, None, Option, nat_le}
use Rattle.std.specs.Int.Digits.{number_from_digits}

-- how many bytes the first run has
abbrev pub size_of : List ℕ → ℕ
size_of bytes = number_from_digits 256 (take 4 bytes)

-- it is all there
abbrev pub begins : List ℕ → Bool
begins bytes = nat_le 4 (length bytes) && nat_le (size_of bytes) (length (drop 4 bytes))

-- the first run, and what is behind it; none where it is not all there
abbrev pub first_run : List ℕ → Option (List ℕ × List ℕ)
first_run bytes = cond (begins bytes) (Some (take (size_of bytes) (drop 4 bytes), drop (size_of bytes) (drop 4 bytes))) None
