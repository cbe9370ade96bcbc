-- Things that have numbers from 1 on. Assumes nothing.
use Rattle.std.specs.Prelude.{ℕ, zero, suc, List, [], ◌∷◌, ◌++◌, Some, None, Option}

abbrev pub alone : {X : Type 0} → Option X → List X
alone (Some x) = x ∷ []
alone None = []

-- the things with the numbers 1 to n that are there, in ascending number
unfoldable pub numbered : {X : Type 0} → (ℕ → Option X) → ℕ → List X
numbered at zero = []
numbered at (suc n) = numbered at n ++ alone (at (suc n))
