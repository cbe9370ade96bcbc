-- A work order, run on the book. Assumes nothing.
use Rattle.std.specs.Prelude.{◌≡◌, ℕ, Bool, true, false, List, [], ◌∷◌, Ok, Err, Result}
use Rattle.orders.specs.declared.command.Command.{Command}
use Rattle.orders.specs.declared.command.Command.TheVariants.{Open, Put, Check, Commit, Discard}
use Rattle.orders.specs.Form.{Form, Placed, form}
use Rattle.refusal.specs.declared.refusal.Refusal.{Refusal}
use Rattle.refusal.specs.declared.refusal.Refusal.TheVariants.{BadOrder}
use Rattle.runner.specs.declared.stopped.Stopped.{Stopped}
use Rattle.runner.specs.declared.stopped.Closing.{Closing}
use Rattle.runner.specs.declared.stopped.Closing.TheVariants as closing
use Rattle.engine.specs.Book.{State, answer, step}

-- a refused command ends the run and discards the edit that the run opened; a refused Open opened none
abbrev pub undone : Command → State → State
undone Open s = s
undone (Put c v) s = step s Discard
undone Check s = step s Discard
undone Commit s = step s Discard
undone Discard s = step s Discard

abbrev pub went : Result (Unit {0}) Refusal → State → State → State
went (Ok u) on stop = on
went (Err r) on stop = stop

-- where nothing is refused, the rest says how the run ends: `placed` has no rest
abbrev pub said : Result (Unit {0}) Refusal → ℕ → Result (Unit {0}) Stopped → Result (Unit {0}) Stopped
said (Ok u) place on = on
said (Err r) place on = Err (record { place = place; why = r })

-- a refusal with the place of its command
abbrev pub placed : {T : Type 0} → ℕ → Result T Refusal → Result T Stopped
placed place (Ok x) = Ok x
placed place (Err why) = Err (record { place = place; why = why })

-- a command that neither opens nor closes an order
abbrev pub stays_within : Command → Bool
stays_within Open = false
stays_within (Put c v) = true
stays_within Check = true
stays_within Commit = false
stays_within Discard = false

-- the book after the commands, up to the first refusal
unfoldable pub run_state : State → List Placed → State
run_state s [] = s
run_state s (x ∷ xs) = went (answer s x.command) (run_state (step s x.command) xs) (undone x.command (step s x.command))

-- that refusal, with its place
unfoldable pub run_answer : State → List Placed → Result (Unit {0}) Stopped
run_answer s [] = Ok tt
run_answer s (x ∷ xs) = said (answer s x.command) x.place (run_answer (step s x.command) xs)

-- the form of the whole order is read first
abbrev pub order_state : State → Form → State
order_state s (Ok xs) = run_state s xs
order_state s (Err p) = s

abbrev pub order_answer : State → Form → Result (Unit {0}) Stopped
order_answer s (Ok xs) = run_answer s xs
order_answer s (Err p) = Err (record { place = p; why = BadOrder })

abbrev pub ran : State → List ℕ → State
ran s order = order_state s (form order)

abbrev pub ran_answer : State → List ℕ → Result (Unit {0}) Stopped
ran_answer s order = order_answer s (form order)

-- how an order ends, by its closing command or by a refusal
abbrev pub Ending : Type 0
Ending = Result Closing Stopped

-- it is carried out with the ticket
abbrev pub finish_state : State → Ending → State
finish_state s (Ok (closing.Commit p)) = step s Commit
finish_state s (Ok (closing.Discard p)) = step s Discard
finish_state s (Err x) = step s Discard

abbrev pub finish_answer : State → Ending → Result (Unit {0}) Stopped
finish_answer s (Ok (closing.Commit p)) = placed p (answer s Commit)
finish_answer s (Ok (closing.Discard p)) = placed p (answer s Discard)
finish_answer s (Err x) = Err x

pub record Ended (s : State) (f : Form) (e : Ending) (t : State) : Type 0 where
  pub state : finish_state t e ≡ order_state s f
  pub said : finish_answer t e ≡ order_answer s f
