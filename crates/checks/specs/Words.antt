-- The first of a list that fails a test. Assumes nothing.
use Rattle.std.specs.Prelude.{◌≡◌, ℕ, ◌<◌, Bool, true, false, not, List, length, get_or, Some, None, Option, slice_index_or}
use Rattle.std.specs.List.{find, range_with_len}
-- a list of cells as it is read: 0 beyond its end
pub use Rattle.layout.specs.Layout.{cell_at as reading}

-- n numbers from a on (kept shut, so that nothing writes it out)
unfoldable pub numbers : ℕ → ℕ → List ℕ
numbers a n = range_with_len a n

-- the first of a list that fails the test, or none
unfoldable pub first_failing : {X : Type 0} → (X → Bool) → List X → Option X
first_failing good xs = find (λ x. not (good x)) xs

-- what the first that fails is: it stands in the list, it fails, and all before it pass; with none, all pass
pub record First {X : Type 0} (good : X → Bool) (xs : List X) (x : X) : Type 0 where
  pub at : ℕ
  pub within : at < length xs
  pub here : get_or xs at x ≡ x
  pub fails : good x ≡ false
  pub before : (j : ℕ) → j < at → good (slice_index_or xs j x) ≡ true

abbrev pub IsFirst : {X : Type 0} → (X → Bool) → List X → Option X → Type 0
IsFirst good xs (Some x) = First good xs x
IsFirst good xs None = (j : ℕ) (d : _) → j < length xs → good (slice_index_or xs j d) ≡ true
