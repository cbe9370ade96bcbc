-- What the keeper of the soonest second holds. Assumes nothing.
use Rattle.std.specs.Prelude.{◌≡◌, ℕ, List, map, Option}
use Rattle.std.specs.Ordering.{nat_cmp}
use Rattle.keeper.specs.declared.offer.Offer.{Offer}
use Rattle.keeper.specs.Best.{first_best}
use Rattle.keeper.specs.Offers.{own, ranked}

-- the first best of some seconds, each its own rank and its own place
abbrev pub SoonestOf : List ℕ → Option (Offer ℕ ℕ) → Type 0
SoonestOf xs kept = kept ≡ first_best (ranked nat_cmp) (map (own (λ n. n)) xs)
