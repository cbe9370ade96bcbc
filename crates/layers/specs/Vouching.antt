-- What the vouching layer means, over the time and the span of the clock below it. Assumes nothing.
use Rattle.std.specs.Prelude.{ℕ, min, Some, None, Option}
use Rattle.clock.specs.Setting.{Kind}
use Rattle.clock.specs.Time.{Meaning}
use Rattle.layers.specs.declared.vouching.Vouching.{Vouching}

-- 395 days: the seconds that a layer vouches for, from its making and from each accepted Set
abbrev pub vouched_seconds : ℕ
vouched_seconds = 34128000

-- a time under so many seconds left, with the lesser of its span and these; or none once they have run out
abbrev pub vouched : Meaning → Option ℕ → Meaning
vouched m None = (None, 0)
vouched m (Some left) = (m.0, min m.1 left)

-- what the layer means, by what the clock below it means
abbrev pub layer_meaning : {C : Type 0} → (C → Meaning) → Vouching C → Meaning
layer_meaning lower v = vouched (lower v.lower) v.left

-- it accepts what the clock below it accepts, and vouches for no more than its days
abbrev pub vouched_kind : Kind → Kind
vouched_kind k = record { first = k.first; last = k.last; span_for = λ s. min (k.span_for s) vouched_seconds }
