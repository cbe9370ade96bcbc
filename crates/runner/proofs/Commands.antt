-- One command of a run.
use Rattle.std.proofs.Common.{◌≡◌, ℕ, ◌+◌, ◌-◌, ◌<◌, ◌≤◌, true, false, List, [], ◌∷◌, length, drop, Some, None, Ok, Err, Result, sym, refl, ap, ◌∙◌, subst, arith}
use Rattle.orders.specs.declared.command.Command.{Command}
use Rattle.orders.specs.declared.command.Command.TheVariants.{Open, Put, Check, Commit, Discard}
use Rattle.orders.specs.Form.{Form, Placed, command_at, stands, size_of, closes, with_first, reads_on, fault_of, form}
use Rattle.orders.proofs.Reading.{sound_last, sound_on, sound_next, sound_stands, rest_length, shorter_rest}
use Rattle.std.proofs.lemmas.Bool.{eqb-true}
use Rattle.refusal.specs.declared.refusal.Refusal.{Refusal}
use Rattle.runner.specs.declared.stopped.Stopped.{Stopped}
use Rattle.store.specs.Cells.{Memory}
use Rattle.engine.specs.declared.engine.Engine.{Engine}
use Rattle.engine.specs.Engines.{OnlyEdit, OnlyCells}
use Rattle.engine.specs.Book.{State, answer, step}
use Rattle.runner.specs.Run.{Ended, Ending, undone, went, said, placed, finish_answer, finish_state, run_state, run_answer, order_state, order_answer, stays_within}

-- what is done so far gives the whole
pub record Gives (s : State) (f : Form) (t : State) (g : Form) : Type 0 where
  pub state : order_state t g ≡ order_state s f
  pub said : order_answer t g ≡ order_answer s f

abbrev pub only : ℕ → Command → Form
only p c = Ok (record { place = p; command = c } ∷ [])

state_on : (s : State) (x : Placed) (f : Form) → fault_of f ≡ None → order_state s (with_first x f) ≡ went (answer s x.command) (order_state (step s x.command) f) (undone x.command (step s x.command))
unfolding run_state
state_on s x (Ok xs) h = refl
state_on s x (Err p) h = let y : ◌≡◌ {A = ℕ} 0 1 = cc in absurd (omega arith)

answer_on : (s : State) (x : Placed) (f : Form) → fault_of f ≡ None → order_answer s (with_first x f) ≡ said (answer s x.command) x.place (order_answer (step s x.command) f)
unfolding run_answer
answer_on s x (Ok xs) h = refl
answer_on s x (Err p) h = let y : ◌≡◌ {A = ℕ} 0 1 = cc in absurd (omega arith)

abbrev at : ℕ → Command → Placed
at p c = record { place = p; command = c }

-- a command at a place of an order without a fault, and the whole that what is left gives
module _ (s : State) (place : ℕ) (bytes next : List ℕ) (c : Command) (found : command_at bytes ≡ Some c) (rest : next ≡ drop (size_of c) bytes) (sound : fault_of (reads_on place bytes) ≡ None) where
  pub closing_gives : closes c ≡ true → Gives s (reads_on place bytes) s (only place c)
  closing_gives h =
      let e = sound_last place bytes next c found rest sound h in
      record { state = sym (ap (order_state s) e); said = sym (ap (order_answer s) e) }

  module _ (stays : closes c ≡ false) where
    on_state : order_state s (reads_on place bytes) ≡ went (answer s c) (order_state (step s c) (reads_on (place + size_of c) next)) (undone c (step s c))
    on_state = ap (order_state s) (sound_on place bytes next c found rest sound stays) ∙ state_on s (at place c) (reads_on (place + size_of c) next) (sound_next place bytes next c found rest sound stays)

    on_answer : order_answer s (reads_on place bytes) ≡ said (answer s c) place (order_answer (step s c) (reads_on (place + size_of c) next))
    on_answer = ap (order_answer s) (sound_on place bytes next c found rest sound stays) ∙ answer_on s (at place c) (reads_on (place + size_of c) next) (sound_next place bytes next c found rest sound stays)

    pub accepted_gives : Ok tt ≡ answer s c → Gives s (reads_on place bytes) (step s c) (reads_on (place + size_of c) next)
    accepted_gives e = record {
      state = ap (λ (r : Result (Unit {0}) Refusal). went r (order_state (step s c) (reads_on (place + size_of c) next)) (undone c (step s c))) e ∙ sym on_state;
      said = ap (λ (r : Result (Unit {0}) Refusal). said r place (order_answer (step s c) (reads_on (place + size_of c) next))) e ∙ sym on_answer;
    }

    pub refused_state : (r : Refusal) → Err r ≡ answer s c → undone c (step s c) ≡ order_state s (reads_on place bytes)
    refused_state r e = ap (λ (q : Result (Unit {0}) Refusal). went q (order_state (step s c) (reads_on (place + size_of c) next)) (undone c (step s c))) e ∙ sym on_state

    pub refused_answer : (r : Refusal) → Err r ≡ answer s c → Err (record { place = place; why = r }) ≡ order_answer s (reads_on place bytes)
    refused_answer r e = ap (λ (q : Result (Unit {0}) Refusal). said q place (order_answer (step s c) (reads_on (place + size_of c) next))) e ∙ sym on_answer

pub gives_then : {s t u : State} {f g h : Form} → Gives s f t g → Gives t g u h → Gives s f u h
gives_then a b = record { state = b.state ∙ a.state; said = b.said ∙ a.said }

-- what is known of an answer by its refusal with a place
pub placed_ok : {T : Type 0} (p : ℕ) (r : Result T Refusal) (x : T) → placed p r ≡ Ok x → r ≡ Ok x
placed_ok p (Ok y) x e = let s : y ≡ x = cc in ap Ok s
placed_ok p (Err why) x e = let y : ◌≡◌ {A = ℕ} 0 1 = cc in absurd (omega arith)

pub placed_err : {T : Type 0} (p : ℕ) (r : Result T Refusal) (x : Stopped) → placed p r ≡ Err x → (r ≡ Err x.why) × (record { place = p; why = x.why } ≡ x)
placed_err p (Ok y) x e = let z : ◌≡◌ {A = ℕ} 0 1 = cc in absurd (omega arith)
placed_err p (Err why) x e =
    let s : record { place = p; why = why } ≡ x = cc in
    (ap (λ (y : Stopped). Err y.why) s, ap (λ (n : ℕ). record { place = n; why = x.why }) (ap (λ (y : Stopped). y.place) s))

placed_said : (p : ℕ) (r : Result (Unit {0}) Refusal) → placed p r ≡ said r p (Ok tt)
placed_said p (Ok u) = refl
placed_said p (Err why) = refl

-- one command of an order without a fault, read from its tail
module _ (len : ℕ) (bytes next : List ℕ) (k c : Command) (found : command_at bytes ≡ Some k) (rest : next ≡ drop (size_of k) bytes) (is : k ≡ c) (within : length bytes ≤ len) (sound : fault_of (reads_on (len - length bytes) bytes) ≡ None) where
  found' : command_at bytes ≡ Some c
  found' = found ∙ ap Some is

  rest' : next ≡ drop (size_of c) bytes
  rest' = rest ∙ ap (λ (x : Command). drop (size_of x) bytes) is

  after : len - length next ≡ len - length bytes + size_of c
  after = omega (arith, rest_length (len - length bytes) bytes next c found' rest')

  pub next_shorter : length next < length bytes
  next_shorter = shorter_rest 0 bytes next c found' rest'

  pub next_sound : closes c ≡ false → fault_of (reads_on (len - length next) next) ≡ None
  next_sound h = ap (λ (p : ℕ). fault_of (reads_on p next)) after ∙ sound_next (len - length bytes) bytes next c found' rest' sound h

  pub never_open : c ≡ Open → length bytes < len → ⊥
  never_open o h =
      let st = ap (λ (x : Command). stands x (len - length bytes) (length next)) (sym o) ∙ sound_stands (len - length bytes) bytes next c found' rest' sound in
      omega (arith, eqb-true (len - length bytes) 0 st)

  module _ {s : State} {f : Form} (t : State) (so_far : Gives s f t (reads_on (len - length bytes) bytes)) where
    pub turn : (u : State) → closes c ≡ false → Ok tt ≡ answer t c → u ≡ step t c → Gives s f u (reads_on (len - length next) next)
    turn u h a e =
        let g = gives_then so_far (accepted_gives t (len - length bytes) bytes next c found' rest' sound h a) in
        subst (λ (x : State). Gives s f x (reads_on (len - length next) next)) (sym e)
        (subst (λ (p : ℕ). Gives s f (step t c) (reads_on p next)) (sym after) g)

    pub stop_state : (u : State) (r : Refusal) → closes c ≡ false → Err r ≡ answer t c → u ≡ step t c → undone c u ≡ order_state s f
    stop_state u r h a e = ap (undone c) e ∙ refused_state t (len - length bytes) bytes next c found' rest' sound h r a ∙ so_far.state

    pub stop_answer : (r : Refusal) → closes c ≡ false → Err r ≡ answer t c → Err (record { place = len - length bytes; why = r }) ≡ order_answer s f
    stop_answer r h a = refused_answer t (len - length bytes) bytes next c found' rest' sound h r a ∙ so_far.said

    -- a command that does not close the order: accepted, what is left gives the whole; refused, the order has ended
    module _ (u : State) (r : Result (Unit {0}) Refusal) (stays : closes c ≡ false) (says : r ≡ answer t c) (did : u ≡ step t c) where
      pub accepted : (x : Unit {0}) → placed (len - length bytes) r ≡ Ok x → Gives s f u (reads_on (len - length next) next)
      accepted x e = turn u stays (sym (placed_ok (len - length bytes) r x e) ∙ says) did

      pub refused : (x : Stopped) (e : Ending) → placed (len - length bytes) r ≡ Err x → e ≡ Err x → step u Discard ≡ undone c u → Ended s f e u
      refused x e h g d =
          let p = placed_err (len - length bytes) r x h in
          let a : Err x.why ≡ answer t c = sym p.0 ∙ says in
          record {
            state = ap (finish_state u) g ∙ d ∙ stop_state u x.why stays a did;
            said = ap (finish_answer u) g ∙ ap Err (sym p.1) ∙ stop_answer x.why stays a;
          }

    pub close : closes c ≡ true → Gives s f t (only (len - length bytes) c)
    close h = gives_then so_far (closing_gives t (len - length bytes) bytes next c found' rest' sound h)

-- the first command of an order without a fault is Open
pub first_open : (c : Command) (n : ℕ) → stands c 0 n ≡ true → c ≡ Open
first_open Open n h = refl
first_open (Put a v) n h = let y : ◌≡◌ {A = ℕ} 0 1 = cc in absurd (omega arith)
first_open Check n h = let y : ◌≡◌ {A = ℕ} 0 1 = cc in absurd (omega arith)
first_open Commit n h = let y : ◌≡◌ {A = ℕ} 0 1 = cc in absurd (omega arith)
first_open Discard n h = let y : ◌≡◌ {A = ℕ} 0 1 = cc in absurd (omega arith)

same_way : (r : Result (Unit {0}) Refusal) (x : State) → went r x x ≡ x
same_way (Ok u) x = refl
same_way (Err e) x = refl

-- the closing command
module _ {s : State} {f : Form} (t : State) (place : ℕ) where
  pub committed : Gives s f t (only place Commit) → step t Commit ≡ order_state s f
  unfolding run_state
  committed g = sym (same_way (answer t Commit) (step t Commit)) ∙ g.state

  pub discarded : Gives s f t (only place Discard) → step t Discard ≡ order_state s f
  unfolding run_state
  discarded g = sym (same_way (answer t Discard) (step t Discard)) ∙ g.state

  pub closed_answer : (c : Command) → Gives s f t (only place c) → placed place (answer t c) ≡ order_answer s f
  unfolding run_answer
  closed_answer c g = placed_said place (answer t c) ∙ g.said

abbrev stopped_at : Refusal → ℕ → Result (Unit {0}) Stopped
stopped_at r p = Err (record { place = p; why = r })

-- the first command of an order without a fault
module _ (order tail : List ℕ) (k : Command) (found : command_at order ≡ Some k) (rest : tail ≡ drop (size_of k) order) (sound : fault_of (form order) ≡ None) where
  is_open : k ≡ Open
  is_open = first_open k (length tail) (sound_stands 0 order tail k found rest sound)

  start : 0 ≡ length order - length order
  start = omega arith

  from_start : fault_of (reads_on (length order - length order) order) ≡ None
  from_start = ap (λ (p : ℕ). fault_of (reads_on p order)) (sym start) ∙ sound

  whole : length order ≤ length order
  whole = omega arith

  pub tail_shorter : length tail < length order
  tail_shorter = next_shorter (length order) order tail k Open found rest is_open whole from_start

  pub tail_sound : fault_of (reads_on (length order - length tail) tail) ≡ None
  tail_sound = next_sound (length order) order tail k Open found rest is_open whole from_start refl

  module _ (s : State) where
    begin : Gives s (form order) s (reads_on (length order - length order) order)
    begin = record {
      state = ap (λ (p : ℕ). order_state s (reads_on p order)) (sym start);
      said = ap (λ (p : ℕ). order_answer s (reads_on p order)) (sym start);
    }

    pub opened_gives : (u : State) → Ok tt ≡ answer s Open → u ≡ step s Open → Gives s (form order) u (reads_on (length order - length tail) tail)
    opened_gives u a e = turn (length order) order tail k Open found rest is_open whole from_start s begin u refl a e

    pub unopened_state : (u : State) (r : Refusal) → Err r ≡ answer s Open → u ≡ step s Open → u ≡ order_state s (form order)
    unopened_state u r a e = stop_state (length order) order tail k Open found rest is_open whole from_start s begin u r refl a e

    pub unopened_answer : (r : Refusal) → Err r ≡ answer s Open → Err (record { place = 0; why = r }) ≡ order_answer s (form order)
    unopened_answer r a =
        ap (stopped_at r) start
        ∙ stop_answer (length order) order tail k Open found rest is_open whole from_start s begin r refl a

-- one call after another leaves alone what both do
module _ {C S R : Type 0} {a b c : Engine C S R} where
  pub then_same : OnlyEdit a b → OnlyEdit b c → OnlyEdit a c
  then_same x y = record { clock = y.clock ∙ x.clock; store = y.store ∙ x.store; rule = y.rule ∙ x.rule }

  pub edit_then_cells : (memory_of : S → Memory) → OnlyEdit a b → OnlyCells memory_of b c → OnlyCells memory_of a c
  edit_then_cells memory_of x y = record { clock = y.clock ∙ x.clock; rule = y.rule ∙ x.rule; memory = y.memory ∙ ap memory_of x.store }

pub cells_too : {C S R : Type 0} {a b : Engine C S R} (memory_of : S → Memory) → OnlyEdit a b → OnlyCells memory_of a b
cells_too memory_of x = record { clock = x.clock; rule = x.rule; memory = ap memory_of x.store }

-- a command within an order
pub within_stays : (c : Command) → stays_within c ≡ true → closes c ≡ false
within_stays Open h = refl
within_stays (Put a v) h = refl
within_stays Check h = refl
within_stays Commit h = let y : ◌≡◌ {A = ℕ} 0 1 = cc in absurd (omega arith)
within_stays Discard h = let y : ◌≡◌ {A = ℕ} 0 1 = cc in absurd (omega arith)

pub within_undone : (c : Command) (u : State) → stays_within c ≡ true → step u Discard ≡ undone c u
within_undone Open u h = let y : ◌≡◌ {A = ℕ} 0 1 = cc in absurd (omega arith)
within_undone (Put a v) u h = refl
within_undone Check u h = refl
within_undone Commit u h = let y : ◌≡◌ {A = ℕ} 0 1 = cc in absurd (omega arith)
within_undone Discard u h = let y : ◌≡◌ {A = ℕ} 0 1 = cc in absurd (omega arith)
