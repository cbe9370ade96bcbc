-- The bits of a mask. Assumes nothing.
use Rattle.std.specs.Prelude.{ℕ, zero, suc, ◌+◌, ◌/◌, ◌%◌, ◌^◌, Bool, cond, ◌==◌}

-- bit n is set: it is worth 2 to the power n
abbrev pub bit : ℕ → ℕ → Bool
bit mask n = mask / 2 ^ n % 2 == 1

-- how many of the bits from 1 to last are set
unfoldable pub bits_in : ℕ → ℕ → ℕ
bits_in zero mask = 0
bits_in (suc n) mask = bits_in n mask + cond (bit mask (suc n)) 1 0
