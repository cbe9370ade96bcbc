-- A life of steps: one turn of it, and its end.
use Rattle.std.proofs.Common.{◌≡◌, ℕ, ◌+◌, ◌<◌, List, [], ◌∷◌, ◌++◌, map, length, get_or, take, drop, set, sym, ap, ◌∙◌, subst, arith}
use lib.ListN.{length-map}
use Rattle.std.proofs.lemmas.List.{drop_more, drop_all, get_or-map, map-append, take_more_set}
use Rattle.history.specs.declared.calls.Call.{Call}
use Rattle.history.specs.declared.calls.Call.TheVariants.{Look, Set, Pass, Get, Open, Put, Check, Commit, Discard, Clear, Run}
use Rattle.history.specs.declared.calls.Answer.{Answer}
use Rattle.clock.specs.Setting.{Kind}
use Rattle.history.specs.History.{Lived, Meaning, Turned}
use Rattle.history.proofs.Turns as Turns
use Rattle.exports.specs.declared.fields.Step.{Step}
use Rattle.exports.specs.declared.fields.Told.{Told}
use Rattle.exports.specs.Lives.{Acted, Same, call_of, calls_of, told_of}

-- after some turns of a history what is told is told of its answers
pub record Sofar (k : Kind) (start : Meaning) (calls : List Call) (at : Meaning) (out : List Told) (left : List Call) : Type 0 where
  pub answered : List Answer
  pub lived : Turns.Sofar k start calls at answered left
  pub told : out ≡ map told_of answered

module _ {k : Kind} {at next : Meaning} {a : Answer} where
  -- where a Run's order lies plays no part
  anywhere : (c : Call) (d : Call) → Same c d → Turned k at c next a → Turned k at d next a
  anywhere (Run order) d e t =
      subst (λ (x : Call). Turned k at x next a) (sym e) (record { book = t.book; time = t.time; rule = t.rule; memory = t.memory; answer = t.answer })
  anywhere Look d e t = subst (λ (x : Call). Turned k at x next a) (sym e) t
  anywhere (Set s) d e t = subst (λ (x : Call). Turned k at x next a) (sym e) t
  anywhere (Pass n) d e t = subst (λ (x : Call). Turned k at x next a) (sym e) t
  anywhere (Get c) d e t = subst (λ (x : Call). Turned k at x next a) (sym e) t
  anywhere Open d e t = subst (λ (x : Call). Turned k at x next a) (sym e) t
  anywhere (Put c v) d e t = subst (λ (x : Call). Turned k at x next a) (sym e) t
  anywhere Check d e t = subst (λ (x : Call). Turned k at x next a) (sym e) t
  anywhere Commit d e t = subst (λ (x : Call). Turned k at x next a) (sym e) t
  anywhere Discard d e t = subst (λ (x : Call). Turned k at x next a) (sym e) t
  anywhere Clear d e t = subst (λ (x : Call). Turned k at x next a) (sym e) t

module _ {k : Kind} {start : Meaning} {calls : List Call} where
  turn : {at next : Meaning} {out : List Told} {c : Call} {left : List Call} {a : Answer} → Sofar k start calls at out (c ∷ left) → Turned k at c next a → Sofar k start calls next (out ++ told_of a ∷ []) left
  turn {at} {next} {out} {c} {left} {a} h t = record {
    answered = h.answered ++ a ∷ [];
    lived = Turns.turn h.lived t;
    told = ap (λ l. l ++ told_of a ∷ []) h.told ∙ sym (map-append told_of h.answered (a ∷ []));
  }

  -- one turn, where what is told goes into its place
  pub turn_in : {at next : Meaning} {a : Answer} {c : Call} (y : Told) (orders : List ℕ) (steps : List Step) (d : Step) (out : List Told) (i : ℕ) → calls ≡ calls_of orders steps → i < length steps → i < length out
      → Sofar k start calls at (take i out) (drop i calls) → Same c (call_of orders (get_or steps i d)) → Turned k at c next a → y ≡ told_of a → Sofar k start calls next (take (i + 1) (set out i y)) (drop (i + 1) calls)
  turn_in {at} {next} {a} {c} y orders steps d out i same here place h alike t e =
      let long : length calls ≡ length steps = ap length same ∙ length-map steps (call_of orders) in
      let item : get_or calls i Look ≡ call_of orders (get_or steps i d) = ap (λ l. get_or l i Look) same ∙ get_or-map (call_of orders) steps i d Look here in
      let left : drop i calls ≡ call_of orders (get_or steps i d) ∷ drop (i + 1) calls = drop_more calls i Look (omega arith) ∙ ap (λ x. x ∷ drop (i + 1) calls) item in
      subst (λ l. Sofar k start calls next l (drop (i + 1) calls)) (ap (λ x. take i out ++ x ∷ []) (sym e) ∙ sym (take_more_set out i y place))
      (turn (subst (Sofar k start calls at (take i out)) left h) (anywhere c (call_of orders (get_or steps i d)) alike t))

  pub over_all : {at : Meaning} (orders : List ℕ) (steps : List Step) (out : List Told) (n i : ℕ) → calls ≡ calls_of orders steps → i ≡ n → length steps ≡ n → Sofar k start calls at (take i out) (drop i calls) → Acted k start calls at (take n out)
  over_all {at} orders steps out n i same end all h =
      let long : length calls ≡ length steps = ap length same ∙ length-map steps (call_of orders) in
      let none : drop i calls ≡ [] = drop_all i calls (omega arith) in
      let s : Sofar k start calls at (take n out) [] = subst (λ j. Sofar k start calls at (take j out) []) end (subst (Sofar k start calls at (take i out)) none h) in
      let l : Lived k start calls at s.answered = Turns.over s.lived in
      record { book = l.book; memory = l.memory; told = s.told ∙ ap (map told_of) l.answers }
