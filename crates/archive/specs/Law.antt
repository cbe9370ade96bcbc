-- The law of two parties: a meter over any history of it, and a reader, of any clocks, stores and rules. Assumes nothing.
use Rattle.std.specs.Prelude.{◌≡◌, ℕ, ◌-◌, ◌≤◌, List, Some, Ok, Result}
use Rattle.refusal.specs.declared.refusal.Refusal.{Refusal}
use Rattle.clock.specs.Setting.{Kind}
use Rattle.clock.specs.Time.{Sound}
use Rattle.schedule.specs.Looks.{SameRule, onward}
use Rattle.schedule.specs.declared.answer.Look.{Look}
use Rattle.engine.specs.Looks.{look_answer}
use Rattle.history.specs.declared.calls.Call.{Call}
use Rattle.history.specs.declared.calls.Answer.{Answer}
use Rattle.archive.specs.Commits.{OverwrittenBy, commits}
use Rattle.history.specs.History.{Meaning, Lived}

-- the look that is defined for an engine: fields worked out from its cells and its rule at its time, or the refusal without a time
abbrev pub defined : Meaning → Result Look Refusal
defined x = look_answer x.rule x.book.cells x.time.0

-- a reader over cells equal to a meter's, and a rule of the same meaning
pub record Alike (meter reader : Meaning) : Type 0 where
  pub cells : reader.book.cells ≡ meter.book.cells
  pub rule : SameRule meter.rule reader.rule

-- A meter is made as `start`, lives the history `calls`, and is then `meter`; it answered `out` to the calls and `shown` to a look.
-- A reader is made as `reader`, and answered `read` to a look.
pub record Confirmed (kind : Kind) (start : Meaning) (calls : List Call) (meter reader : Meaning) (out : List Answer) (shown read : Result Look Refusal) : Type 0 where
  -- cells and answers are the book's; only Sets and Passes move time and span; the memory past the cells is untouched
  pub history : Lived kind start calls meter out
  -- the cells are those of the making, overwritten by the committed edits alone, in the sequence of their commits
  pub committed : OverwrittenBy (commits start.book calls) start.book.cells meter.book.cells
  -- the clock vouches for nothing past the last second
  pub sound : Sound meter.time
  -- either look is the defined one
  pub meter_sees : shown ≡ defined meter
  pub reader_sees : read ≡ defined reader
  -- at the same time, or where neither has one, both look alike
  pub agreement : Alike meter reader → reader.time.0 ≡ meter.time.0 → read ≡ shown
  -- from the meter's second to its look's last, the reader finds that look again, with local time later by the seconds between
  pub constancy : Alike meter reader → (t u : ℕ) (look : Look) → meter.time.0 ≡ Some t → reader.time.0 ≡ Some u → shown ≡ Ok look → t ≤ u → u ≤ look.last_second → read ≡ Ok (onward (u - t) look)
