-- Offers rank by their ranks, wherever they come from. Assumes nothing.
use Rattle.std.specs.Prelude.{Bool, Option}
use Rattle.std.specs.Option.{option_map}
use Rattle.std.specs.Ordering.{is_lt}
use Rattle.std.specs.declared.cmp.Ordering.{Ordering}
use Rattle.keeper.specs.declared.offer.Offer.{Offer}

-- an offer beats another where its rank is less
abbrev pub ranked : {K P : Type 0} → (K → K → Ordering) → Offer K P → Offer K P → Bool
ranked cmp x y = is_lt (cmp x.rank y.rank)

-- the place of what is kept
abbrev pub place_of : {K P : Type 0} → Option (Offer K P) → Option P
place_of o = option_map (λ x. x.place) o

-- a thing offered as its own place
abbrev pub own : {X K : Type 0} → (X → K) → X → Offer K X
own rank x = record { rank = rank x; place = x }
