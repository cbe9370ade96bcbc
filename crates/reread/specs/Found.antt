-- What a life leaves, and what is found of it. Assumes nothing.
use Rattle.std.specs.Prelude.{◌≡◌, ℕ, List, None, Option, Result}
use Rattle.refusal.specs.declared.refusal.Refusal.{Refusal}
use Rattle.clock.specs.Setting.{Kind, counter_kind}
use Rattle.clock.specs.Time.{Meaning as Moment}
use Rattle.layers.specs.Vouching.{vouched_kind}
use Rattle.image.specs.Image.{image_cells}
use Rattle.summer.specs.Laws.{europe}
use Rattle.schedule.specs.declared.answer.Look.{Look}
use Rattle.engine.specs.Book.{unedited}
use Rattle.engine.specs.Looks.{look_answer}
use Rattle.history.specs.declared.calls.Call.{Call}
use Rattle.history.specs.declared.calls.Answer.{Answer}
use Rattle.history.specs.Book.{answers, kept, moved, moves}

-- the meter's clock: a counter under the vouching layer
abbrev pub meter_kind : Kind
meter_kind = vouched_kind counter_kind

-- it is made without a time
abbrev pub unset : Moment
unset = (None, 0)

-- the cells that a life leaves, of the image that it began with
abbrev pub cells_after : List ℕ → List Call → List ℕ
cells_after image calls = (kept (unedited (image_cells image)) calls).cells

-- the time that it leaves
abbrev pub time_after : List Call → Option ℕ
time_after calls = (moved meter_kind unset (moves calls)).0

-- what is found of a life that began with this image
pub record Found (image : List ℕ) (calls : List Call) (out : List Answer) (shown read : Result Look Refusal) : Type 0 where
  -- each call was answered as the book answers
  pub answers : out ≡ answers meter_kind europe unset (unedited (image_cells image)) calls
  -- the meter shows the look that is defined for the cells and the time that the life leaves
  pub meter : shown ≡ look_answer europe (cells_after image calls) (time_after calls)
  -- and so does the reader
  pub reader : read ≡ shown
