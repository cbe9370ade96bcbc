-- What a history of calls does to an engine. Assumes nothing.
use Rattle.std.specs.Prelude.{◌≡◌, ℕ, List, None}
use Rattle.clock.specs.Setting.{Kind}
use Rattle.clock.specs.Time.{Meaning as Moment}
use Rattle.store.specs.Cells.{Memory}
use Rattle.schedule.specs.Looks.{Rule}
use Rattle.engine.specs.declared.engine.Engine.{Engine}
use Rattle.engine.specs.Book.{State}
use Rattle.engine.specs.Engines.{state_of}
use Rattle.history.specs.declared.calls.Call.{Call}
use Rattle.history.specs.declared.calls.Answer.{Answer}
use Rattle.history.specs.Book.{answer, answers, kept, moved, moves, step, tick}

-- what an engine means: time and span, the book, the rule, and what its store has beside the cells: widths, the handed-over memory past them, and where it lies
pub record Meaning : Type 0 where
  pub time : Moment
  pub book : State
  pub rule : Rule
  pub memory : Memory

-- by what its clock, its store and its rule mean
module _ {C S R : Type 0} where
  abbrev pub meaning : (C → Moment) → (S → List ℕ) → (S → Memory) → (R → Rule) → Engine C S R → Meaning
  meaning clock cells memory in_force e =
      record { time = clock e.clock; book = state_of cells e; rule = in_force e.rule; memory = memory e.store }

-- what an engine means when it is made: no edit is open
abbrev pub newly : Moment → List ℕ → Memory → Rule → Meaning
newly time cells memory rule =
    record { time = time; book = record { cells = cells; edit = None }; rule = rule; memory = memory }

-- one call does to an engine what the book and the meaning of a clock say, and leaves the rest alone
pub record Turned (kind : Kind) (before : Meaning) (call : Call) (after : Meaning) (out : Answer) : Type 0 where
  pub book : after.book ≡ step before.book call
  pub time : after.time ≡ tick kind before.time call
  pub rule : after.rule ≡ before.rule
  -- the handed-over memory past the cells is untouched, and is the same memory
  pub memory : after.memory ≡ before.memory
  pub answer : out ≡ answer kind before.rule before.time before.book call

-- the history takes an engine from one meaning to another, and gives the answers out
pub record Lived (kind : Kind) (before : Meaning) (calls : List Call) (after : Meaning) (out : List Answer) : Type 0 where
  -- the cells and the edit are the book's
  pub book : after.book ≡ kept before.book calls
  -- the clock is moved by the Sets and the Passes, and by nothing else
  pub time : after.time ≡ moved kind before.time (moves calls)
  pub rule : after.rule ≡ before.rule
  pub memory : after.memory ≡ before.memory
  pub answers : out ≡ answers kind before.rule before.time before.book calls
