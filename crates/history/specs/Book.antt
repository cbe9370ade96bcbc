-- The book of a history: what each call answers, and what it makes of the book and of the time. Assumes nothing.
use Rattle.std.specs.Prelude.{ℕ, List, [], ◌∷◌, Ok, Err, Result}
use Rattle.refusal.specs.declared.refusal.Refusal.{Refusal}
use Rattle.clock.specs.Time.{Meaning as Moment, passed}
use Rattle.clock.specs.Setting.{Kind, set_answer, adjusted}
use Rattle.store.specs.Cells.{get_answer}
use Rattle.schedule.specs.Looks.{Rule}
use Rattle.schedule.specs.declared.answer.Look.{Look}
use Rattle.orders.specs.declared.command.Command.TheVariants as command
use Rattle.runner.specs.declared.stopped.Stopped.{Stopped}
use Rattle.engine.specs.Book.{State}
use Rattle.engine.specs.Book as engine
use Rattle.runner.specs.Run.{ran, ran_answer}
use Rattle.engine.specs.Looks.{look_answer}
use Rattle.history.specs.declared.calls.Call.{Call}
use Rattle.history.specs.declared.calls.Call.TheVariants as call
use Rattle.history.specs.declared.calls.Answer.{Answer}
use Rattle.history.specs.declared.calls.Answer.TheVariants as says

-- answers in words of the history
abbrev pub done : Result (Unit {0}) Refusal → Answer
done (Ok u) = says.Done
done (Err r) = says.Refused r

abbrev pub told : Result ℕ Refusal → Answer
told (Ok v) = says.Cell v
told (Err r) = says.Refused r

abbrev pub seen : Result Look Refusal → Answer
seen (Ok l) = says.Seen l
seen (Err r) = says.Refused r

abbrev pub came_to : Result (Unit {0}) Stopped → Answer
came_to (Ok u) = says.Done
came_to (Err s) = says.Stopped s

-- what a call answers: a look by its definition, Set and Pass by the meaning of a clock, the others by the book's own state
abbrev pub answer : Kind → Rule → Moment → State → Call → Answer
answer k f m s call.Look = seen (look_answer f s.cells m.0)
answer k f m s (call.Set t) = done (set_answer k t)
answer k f m s (call.Pass n) = says.Done
answer k f m s (call.Get c) = told (get_answer s.cells c)
answer k f m s call.Open = done (engine.answer s command.Open)
answer k f m s (call.Put c v) = done (engine.answer s (command.Put c v))
answer k f m s call.Check = done (engine.answer s command.Check)
answer k f m s call.Commit = done (engine.answer s command.Commit)
answer k f m s call.Discard = done (engine.answer s command.Discard)
answer k f m s call.Clear = done (engine.answer s command.Discard)
answer k f m s (call.Run order) = came_to (ran_answer s order.now)

-- what a call makes of the book
abbrev pub step : State → Call → State
step s call.Look = s
step s (call.Set t) = s
step s (call.Pass n) = s
step s (call.Get c) = s
step s call.Open = engine.step s command.Open
step s (call.Put c v) = engine.step s (command.Put c v)
step s call.Check = engine.step s command.Check
step s call.Commit = engine.step s command.Commit
step s call.Discard = engine.step s command.Discard
step s call.Clear = engine.step s command.Discard
step s (call.Run order) = ran s order.now

-- what moves a clock
pub data Move : Type 0 where
  by : ℕ → Move
  to : ℕ → Move

-- the Passes and Sets of a history, and nothing else of it
abbrev pub moves : List Call → List Move
moves [] = []
moves (call.Look ∷ cs) = moves cs
moves (call.Set t ∷ cs) = to t ∷ moves cs
moves (call.Pass n ∷ cs) = by n ∷ moves cs
moves (call.Get c ∷ cs) = moves cs
moves (call.Open ∷ cs) = moves cs
moves (call.Put c v ∷ cs) = moves cs
moves (call.Check ∷ cs) = moves cs
moves (call.Commit ∷ cs) = moves cs
moves (call.Discard ∷ cs) = moves cs
moves (call.Clear ∷ cs) = moves cs
moves (call.Run order ∷ cs) = moves cs

-- time and span after some of these, by the meaning of a clock
abbrev pub moved : Kind → Moment → List Move → Moment
moved k m [] = m
moved k m (by n ∷ ms) = moved k (passed m n) ms
moved k m (to t ∷ ms) = moved k (adjusted k m t) ms

abbrev pub tick : Kind → Moment → Call → Moment
tick k m c = moved k m (moves (c ∷ []))

-- the book after the calls
abbrev pub kept : State → List Call → State
kept s [] = s
kept s (c ∷ cs) = kept (step s c) cs

-- what each of the calls answers
abbrev pub answers : Kind → Rule → Moment → State → List Call → List Answer
answers k f m s [] = []
answers k f m s (c ∷ cs) = answer k f m s c ∷ answers k f (tick k m c) (step s c) cs
