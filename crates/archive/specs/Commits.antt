-- The committed edits of a history, and the cells by these alone. Assumes nothing.
use Rattle.std.specs.Prelude.{◌≡◌, ℕ, ◌<◌, cond, List, [], ◌∷◌, ◌++◌, length, Some, None, Ok, Err, Option, Result, ◌==◌, slice_index}
use Rattle.std.specs.Option.{unwrap_or}
use Rattle.refusal.specs.declared.refusal.Refusal.{Refusal}
use Rattle.store.specs.declared.entry.Entry.{Entry}
use Rattle.edit.specs.Drafts.{Draft}
use Rattle.orders.specs.declared.command.Command.{Command}
use Rattle.orders.specs.declared.command.Command.TheVariants as command
use Rattle.orders.specs.Form.{Form, Placed, form}
use Rattle.engine.specs.Book.{State}
use Rattle.engine.specs.Book as engine
use Rattle.history.specs.declared.calls.Call.{Call}
use Rattle.history.specs.declared.calls.Call.TheVariants as call
use Rattle.history.specs.Book.{step}

-- the values of an edit that is marked
abbrev pub if_marked : Option Draft → List (List Entry)
if_marked None = []
if_marked (Some d) = cond d.marked (d.entries ∷ []) []

-- what a command commits
abbrev pub commit_of : State → Command → List (List Entry)
commit_of s command.Open = []
commit_of s (command.Put c v) = []
commit_of s command.Check = []
commit_of s command.Commit = if_marked s.edit
commit_of s command.Discard = []

-- after a refusal a run commits nothing more
abbrev pub unless_refused : Result (Unit {0}) Refusal → List (List Entry) → List (List Entry)
unless_refused (Ok u) edits = edits
unless_refused (Err r) edits = []

unfoldable pub run_commits : State → List Placed → List (List Entry)
run_commits s [] = []
run_commits s (x ∷ xs) =
    unless_refused (engine.answer s x.command) (commit_of s x.command ++ run_commits (engine.step s x.command) xs)

-- an order that is none commits nothing
abbrev pub order_commits : State → Form → List (List Entry)
order_commits s (Ok xs) = run_commits s xs
order_commits s (Err p) = []

-- what a call commits
abbrev pub commits_of : State → Call → List (List Entry)
commits_of s call.Look = []
commits_of s (call.Set t) = []
commits_of s (call.Pass n) = []
commits_of s (call.Get c) = []
commits_of s call.Open = []
commits_of s (call.Put c v) = []
commits_of s call.Check = []
commits_of s call.Commit = if_marked s.edit
commits_of s call.Discard = []
commits_of s call.Clear = []
commits_of s (call.Run order) = order_commits s (form order.now)

-- the committed edits of a history, in the sequence of their commits
unfoldable pub commits : State → List Call → List (List Entry)
commits s [] = []
commits s (c ∷ cs) = commits_of s c ++ commits (step s c) cs

abbrev pub or_else : Option ℕ → Option ℕ → Option ℕ
or_else (Some x) o = Some x
or_else None o = o

-- the value that an edit has for a cell, if it names the cell
unfoldable pub value_for : ℕ → List Entry → Option ℕ
value_for c [] = None
value_for c (e ∷ es) = or_else (value_for c es) (cond (e.cell == c) (Some e.value) None)

-- the value that the last edit has for it that names it
unfoldable pub last_value : ℕ → List (List Entry) → Option ℕ
last_value c [] = None
last_value c (es ∷ ess) = or_else (last_value c ess) (value_for c es)

-- the cells are those that were made, overwritten by these edits alone: a cell that none names is as it was made
pub record OverwrittenBy (edits : List (List Entry)) (made cells : List ℕ) : Type 0 where
  pub size : length cells ≡ length made
  pub cell : (c : ℕ) → c < length made → slice_index cells c ≡ unwrap_or (last_value c edits) (slice_index made c)
