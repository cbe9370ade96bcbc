-- One turn of a book: what is left of the calls gives the whole.
use Rattle.std.proofs.Common.{◌≡◌, ℕ, ◌+◌, ◌<◌, ◌≤◌, List, ◌∷◌, length, get_or, drop, sym, ap, ◌∙◌}
use Rattle.std.proofs.lemmas.List.{drop_all, drop_more}
use Rattle.clock.specs.Time.{Meaning as Moment}
use Rattle.engine.specs.Book.{State}
use Rattle.history.specs.declared.calls.Call.{Call}
use Rattle.history.specs.declared.calls.Call.TheVariants as call
use Rattle.clock.specs.Setting.{Kind}
use Rattle.history.specs.Book.{kept, moved, moves, step, tick}
use Rattle.history.proofs.Turns.{moved_cons}

module _ (calls : List Call) (i : ℕ) where
  next : i < length calls → drop i calls ≡ get_or calls i call.Look ∷ drop (i + 1) calls
  next h = drop_more calls i call.Look h

  pub kept_turn : (s t : State) → i < length calls → t ≡ step s (get_or calls i call.Look) → kept t (drop (i + 1) calls) ≡ kept s (drop i calls)
  kept_turn s t h e = ap (λ (x : State). kept x (drop (i + 1) calls)) e ∙ sym (ap (kept s) (next h))

  pub kept_end : (s : State) → length calls ≤ i → s ≡ kept s (drop i calls)
  kept_end s h = sym (ap (kept s) (drop_all i calls h))

  pub moved_turn : (k : Kind) (m n : Moment) → i < length calls → n ≡ tick k m (get_or calls i call.Look) → moved k n (moves (drop (i + 1) calls)) ≡ moved k m (moves (drop i calls))
  moved_turn k m n h e =
      ap (λ (x : Moment). moved k x (moves (drop (i + 1) calls))) e
      ∙ sym (moved_cons k m (get_or calls i call.Look) (drop (i + 1) calls))
      ∙ sym (ap (λ (cs : List Call). moved k m (moves cs)) (next h))

  pub moved_end : (k : Kind) (m : Moment) → length calls ≤ i → m ≡ moved k m (moves (drop i calls))
  moved_end k m h = sym (ap (λ (cs : List Call). moved k m (moves cs)) (drop_all i calls h))
