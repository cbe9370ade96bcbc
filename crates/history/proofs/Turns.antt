-- One turn of a history: what is left to do gives what the whole gives.
use Rattle.std.proofs.Common.{◌≡◌, ℕ, ◌+◌, ◌<◌, List, [], ◌∷◌, ◌++◌, length, get_or, take, drop, set, sym, refl, ap, ◌∙◌, subst, append_assoc, append-nil, arith}
use Rattle.std.proofs.lemmas.List.{drop_more, at_drop_all, take_more_set}
use Rattle.clock.specs.Time.{Meaning as Moment}
use Rattle.history.specs.declared.calls.Call.{Call}
use Rattle.history.specs.declared.calls.Call.TheVariants as call
use Rattle.history.specs.declared.calls.Answer.{Answer}
use Rattle.clock.specs.Setting.{Kind}
use Rattle.history.specs.Book.{kept, moves, moved, tick, answers}
use Rattle.history.specs.History.{Meaning, Lived, Turned}

-- after some turns the engine means `at`, has answered `out`, and `left` is still to do
pub record Sofar (k : Kind) (start : Meaning) (calls : List Call) (at : Meaning) (out : List Answer) (left : List Call) : Type 0 where
  pub book : kept at.book left ≡ kept start.book calls
  pub time : moved k at.time (moves left) ≡ moved k start.time (moves calls)
  pub rule : at.rule ≡ start.rule
  pub memory : at.memory ≡ start.memory
  pub answers : out ++ answers k at.rule at.time at.book left ≡ answers k start.rule start.time start.book calls

pub moved_cons : (k : Kind) (m : Moment) (c : Call) (cs : List Call) → moved k m (moves (c ∷ cs)) ≡ moved k (tick k m c) (moves cs)
moved_cons k m call.Look cs = refl
moved_cons k m (call.Set t) cs = refl
moved_cons k m (call.Pass n) cs = refl
moved_cons k m (call.Get c) cs = refl
moved_cons k m call.Open cs = refl
moved_cons k m (call.Put c v) cs = refl
moved_cons k m call.Check cs = refl
moved_cons k m call.Commit cs = refl
moved_cons k m call.Discard cs = refl
moved_cons k m call.Clear cs = refl
moved_cons k m (call.Run order) cs = refl

module _ {k : Kind} {start : Meaning} {calls : List Call} where
  pub turn : {at next : Meaning} {out : List Answer} {c : Call} {left : List Call} {a : Answer} → Sofar k start calls at out (c ∷ left) → Turned k at c next a → Sofar k start calls next (out ++ a ∷ []) left
  turn {at} {next} {out} {c} {left} {a} h t = record {
    book = ap (λ s. kept s left) t.book ∙ h.book;
    time = ap (λ m. moved k m (moves left)) t.time ∙ sym (moved_cons k at.time c left) ∙ h.time;
    rule = t.rule ∙ h.rule;
    memory = t.memory ∙ h.memory;
    answers = append_assoc out (a ∷ []) _ ∙ ap (λ l. out ++ l) ((λ i. t.answer i ∷ answers k (t.rule i) (t.time i) (t.book i) left)) ∙ h.answers;
  }

  pub over : {at : Meaning} {out : List Answer} → Sofar k start calls at out [] → Lived k start calls at out
  over {at} {out} h = record { book = h.book; time = h.time; rule = h.rule; memory = h.memory; answers = sym (append-nil out) ∙ h.answers }

  -- one turn, where the answer goes into its place
  pub turn_in : {at next : Meaning} {a : Answer} (out : List Answer) (i : ℕ) → i < length calls → i < length out → Sofar k start calls at (take i out) (drop i calls) → Turned k at (get_or calls i call.Look) next a → Sofar k start calls next (take (i + 1) (set out i a)) (drop (i + 1) calls)
  turn_in {at} {next} {a} out i here place h t =
      let left : drop i calls ≡ get_or calls i call.Look ∷ drop (i + 1) calls = drop_more calls i call.Look here in
      subst (λ l. Sofar k start calls next l (drop (i + 1) calls)) (sym (take_more_set out i a place))
      (turn (subst (Sofar k start calls at (take i out)) left h) t)

  -- all of them
  pub over_all : {at : Meaning} (out : List Answer) (n i : ℕ) → i ≡ n → length calls ≡ n → Sofar k start calls at (take i out) (drop i calls) → Lived k start calls at (take n out)
  over_all {at} out n i end long h =
      let none : drop i calls ≡ [] = at_drop_all (λ l. l) calls i (omega arith) in
      over (subst (λ j. Sofar k start calls at (take j out) []) end (subst (Sofar k start calls at (take i out)) none h))
