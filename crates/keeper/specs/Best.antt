-- The first best of a list. Assumes nothing.
use Rattle.std.specs.Prelude.{◌≡◌, ℕ, ◌<◌, Bool, true, false, cond, ◌||◌, List, [], ◌∷◌, length, Some, None, Option, slice_index_or}

-- one of the list beats x
unfoldable pub beaten : {X : Type 0} → (X → X → Bool) → List X → X → Bool
beaten beats [] x = false
beaten beats (y ∷ ys) x = beats y x || beaten beats ys x

-- the first of ys that none of xs beats
unfoldable pub first_unbeaten : {X : Type 0} → (X → X → Bool) → List X → List X → Option X
first_unbeaten beats xs [] = None
first_unbeaten beats xs (y ∷ ys) = cond (beaten beats xs y) (first_unbeaten beats xs ys) (Some y)

-- the first of a list that none of the list beats
unfoldable pub first_best : {X : Type 0} → (X → X → Bool) → List X → Option X
first_best beats xs = first_unbeaten beats xs xs

-- what that means under a total order: it stands in the list, none beats it, and it beats each that stands before it
pub record Best {X : Type 0} (beats : X → X → Bool) (xs : List X) (x : X) : Type 0 where
  pub place : ℕ
  pub within : place < length xs
  pub is : x ≡ slice_index_or xs place x
  pub best : (k : ℕ) → k < length xs → beats (slice_index_or xs k x) x ≡ false
  pub first : (k : ℕ) → k < place → beats x (slice_index_or xs k x) ≡ true

-- the same of an answer: the first best, or that the list is empty
abbrev pub IsFirstBest : {X : Type 0} → (X → X → Bool) → List X → Option X → Type 0
IsFirstBest beats xs (Some x) = Best beats xs x
IsFirstBest beats xs None = xs ≡ []

-- what is kept when one more is offered: it is, if it beats what was kept
abbrev pub keep_one : {X : Type 0} → (X → X → Bool) → Option X → X → Option X
keep_one beats None x = Some x
keep_one beats (Some b) x = cond (beats x b) (Some x) (Some b)
