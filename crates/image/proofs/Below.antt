-- Numbers below a limit, of which only the first are taken, or the others.
use Rattle.std.proofs.Common.{ℕ, ◌+◌, ◌<◌, List, get_or, take, drop, arith}
use Rattle.std.proofs.lemmas.Grind.{common_steps}

pub below_take : (b n : ℕ) (xs : List ℕ) → 0 < b → ((k : ℕ) → get_or xs k 0 < b) → (k : ℕ) → get_or (take n xs) k 0 < b
below_take b n xs z h k = grind (arith, common_steps, h k)

pub below_drop : (b n : ℕ) (xs : List ℕ) → ((k : ℕ) → get_or xs k 0 < b) → (k : ℕ) → get_or (drop n xs) k 0 < b
below_drop b n xs h k = grind (arith, common_steps, h (n + k))
