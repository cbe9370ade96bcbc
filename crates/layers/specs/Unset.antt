-- A clock that cannot be set, as one that accepts no second. Assumes nothing.
use Rattle.clock.specs.Time.{Meaning}
use Rattle.layers.specs.declared.unset.Unset.{Unset}

-- its time and its span are those of the clock
abbrev pub unset_meaning : {C : Type 0} → (C → Meaning) → Unset C → Meaning
unset_meaning lower c = lower c.clock
