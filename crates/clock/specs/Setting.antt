-- What setting a clock answers, and what it makes of a time and a span. Assumes nothing.
use Rattle.std.specs.Prelude.{ℕ, ◌-◌, Bool, cond, ◌&&◌, Some, Ok, Err, Result, nat_le}
use Rattle.refusal.specs.declared.refusal.Refusal.{Refusal}
use Rattle.refusal.specs.declared.refusal.Refusal.TheVariants.{TimeNotTaken}
use Rattle.clock.specs.Time.{Meaning, final_second}

-- a kind of clock: the first and the last second that it accepts, and the span of a clock that was just set to a second
pub record Kind : Type 0 where
  pub first : ℕ
  pub last : ℕ
  pub span_for : ℕ → ℕ

-- the seconds from first to last are accepted
abbrev pub accepts : Kind → ℕ → Bool
accepts k s = nat_le k.first s && nat_le s k.last

-- what Set(s) answers
abbrev pub set_answer : Kind → ℕ → Result (Unit {0}) Refusal
set_answer k s = cond (accepts k s) (Ok tt) (Err TimeNotTaken)

-- an accepted s becomes the time, with the kind's span for s; any other changes nothing
abbrev pub adjusted : Kind → Meaning → ℕ → Meaning
adjusted k m s = cond (accepts k s) (Some s, k.span_for s) m

-- a kind that accepts the seconds from first to last, and vouches up to the last
abbrev pub kind_to : ℕ → ℕ → Kind
kind_to first last = record { first = first; last = last; span_for = λ s. last - s }

-- a counter accepts every second
abbrev pub counter_kind : Kind
counter_kind = kind_to 0 final_second

-- a clock that cannot be set accepts nothing
abbrev pub no_kind : Kind
no_kind = record { first = 1; last = 0; span_for = λ s. 0 }
