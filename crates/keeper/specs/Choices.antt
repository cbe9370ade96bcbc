-- What a function that is passed in computes. Assumes nothing.
use Rattle.std.specs.Prelude.{◌≡◌}
use denote.Ref.{Bor}
use denote.Param.Members.{Shared}

-- a call at a reference to x returns f x
abbrev pub Returns : {F X R : Type 0} → Shared F (Bor X × Unit {0}) R → F → (X → R) → Type 0
Returns {F} {X} {R} g it f = (x : Bor X) (r : R) → g.post it (x, tt) r → r ≡ f x.now
