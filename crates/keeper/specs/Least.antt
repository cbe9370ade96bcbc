-- The least later number that has a property. Assumes nothing.
use Rattle.std.specs.Prelude.{◌≡◌, ℕ, zero, suc, ◌+◌, ◌-◌, ◌<◌, ◌≤◌, Bool, true, false, not, Some, None, Option}

-- the least of the numbers from m on, n of them, at which p is true
unfoldable pub least_from : (ℕ → Bool) → ℕ → ℕ → Option ℕ
least_from p m zero = None
least_from p m (suc n) = elim (p m) [ true ↦ Some m | false ↦ least_from p (m + 1) n ]

-- the least number after t, up to l, at which p is true, or none
unfoldable pub least_later : (ℕ → Bool) → ℕ → ℕ → Option ℕ
least_later p t l = least_from p (t + 1) (l - t)

-- what that means: n comes after t and not after l, p is true at n, and at no number between
pub record Least (p : ℕ → Bool) (t l n : ℕ) : Type 0 where
  pub later : t < n
  pub within : n ≤ l
  pub holds : p n ≡ true
  pub first : (k : ℕ) → t < k → k < n → p k ≡ false

-- the same of an answer: the least one, or that there is none
abbrev pub IsLeast : (ℕ → Bool) → ℕ → ℕ → Option ℕ → Type 0
IsLeast p t l (Some n) = Least p t l n
IsLeast p t l None = (k : ℕ) → t < k → k ≤ l → p k ≡ false

-- two answers are not the same
abbrev pub differs : Bool → Bool → Bool
differs true b = not b
differs false b = b

-- the answer at t differs from that at the number before it
abbrev pub changes : (ℕ → Bool) → ℕ → Bool
changes f t = differs (f t) (f (t - 1))
