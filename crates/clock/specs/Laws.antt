-- Laws of what clocks mean, on which work over whole histories rests. Assumes nothing.
use Rattle.std.specs.Prelude.{◌≡◌, ℕ, ◌+◌, ◌≤◌, Some}
use Rattle.clock.specs.Time.{Meaning, passed}
use Rattle.clock.specs.Setting.{Kind, adjusted}

-- passing 0 changes nothing, and passing a and then b is passing a + b
pub record PassLaws : Type 0 where
  pub nothing : (m : Meaning) → passed m 0 ≡ m
  pub added : (m : Meaning) (a b : ℕ) → passed (passed m a) b ≡ passed m (a + b)

-- an accepted Set forgets everything before it, and leaves a time
pub record SetLaws (k : Kind) : Type 0 where
  pub forgets : (m m' : Meaning) (s : ℕ) → k.first ≤ s → s ≤ k.last → adjusted k m s ≡ adjusted k m' s
  pub shows : (m : Meaning) (s : ℕ) → k.first ≤ s → s ≤ k.last → (adjusted k m s).0 ≡ Some s
