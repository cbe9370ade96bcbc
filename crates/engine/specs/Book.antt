-- The book: cells, and an edit or none; what a command answers by it, and what it makes of it. Assumes nothing.
use Rattle.std.specs.Prelude.{ℕ, true, false, cond, List, [], length, Some, None, Ok, Err, Option, Result, nat_lt}
use Rattle.orders.specs.declared.command.Command.{Command}
use Rattle.orders.specs.declared.command.Command.TheVariants.{Open, Put, Check, Commit, Discard}
use Rattle.checks.specs.declared.fault.Fault.{Fault}
use Rattle.checks.specs.Words.{reading}
use Rattle.checks.specs.Rules.{first_fault}
use Rattle.refusal.specs.declared.refusal.Refusal.{Refusal}
use Rattle.refusal.specs.declared.refusal.Refusal.TheVariants.{NoCell, EditOpen, NoEdit, Inconsistent, NotChecked}
use Rattle.edit.specs.Drafts.{Draft, note_answer, note_draft, overwritten}

-- what the book keeps
pub record State : Type 0 where
  pub cells : List ℕ
  pub edit : Option Draft

-- some cells, with no edit open
abbrev pub unedited : List ℕ → State
unedited cells = record { cells = cells; edit = None }

-- Open: refused during an edit; else an edit without values, unmarked
abbrev pub open_answer : Option Draft → Result (Unit {0}) Refusal
open_answer None = Ok tt
open_answer (Some d) = Err EditOpen

abbrev pub open_draft : Option Draft → Option Draft
open_draft None = Some (record { entries = []; marked = false })
open_draft (Some d) = Some d

-- Put: tests for an edit, then the cell against the size, then the value and the room
abbrev pub put_answer : List ℕ → Option Draft → ℕ → ℕ → Result (Unit {0}) Refusal
put_answer cs None c v = Err NoEdit
put_answer cs (Some d) c v = cond (nat_lt c (length cs)) (note_answer d c v) (Err NoCell)

abbrev pub put_draft : List ℕ → Option Draft → ℕ → ℕ → Option Draft
put_draft cs None c v = None
put_draft cs (Some d) c v = Some (cond (nat_lt c (length cs)) (note_draft d c v) d)

-- the tables as they would stand after the commit, and their first fault
abbrev pub fault_after : List ℕ → Draft → Option Fault
fault_after cs d = first_fault (reading (overwritten cs d.entries))

-- what Check says of a fault, and what mark it leaves
abbrev pub verdict : Option Fault → Result (Unit {0}) Refusal
verdict None = Ok tt
verdict (Some f) = Err (Inconsistent f.rule f.cell)

abbrev pub marked_by : Option Fault → Draft → Draft
marked_by None d = record { entries = d.entries; marked = true }
marked_by (Some f) d = d

-- Check: marks a good edit
abbrev pub check_answer : List ℕ → Option Draft → Result (Unit {0}) Refusal
check_answer cs None = Err NoEdit
check_answer cs (Some d) = verdict (fault_after cs d)

abbrev pub check_draft : List ℕ → Option Draft → Option Draft
check_draft cs None = None
check_draft cs (Some d) = Some (marked_by (fault_after cs d) d)

-- Commit: the values of a marked edit go into the cells; the edit is gone in any case
abbrev pub commit_answer : Option Draft → Result (Unit {0}) Refusal
commit_answer None = Err NoEdit
commit_answer (Some d) = cond d.marked (Ok tt) (Err NotChecked)

abbrev pub commit_cells : List ℕ → Option Draft → List ℕ
commit_cells cs None = cs
commit_cells cs (Some d) = cond d.marked (overwritten cs d.entries) cs

-- Discard: the edit is gone
abbrev pub discard_answer : Option Draft → Result (Unit {0}) Refusal
discard_answer None = Err NoEdit
discard_answer (Some d) = Ok tt

-- what a call answers, by the book's own state
abbrev pub answer : State → Command → Result (Unit {0}) Refusal
answer s Open = open_answer s.edit
answer s (Put c v) = put_answer s.cells s.edit c v
answer s Check = check_answer s.cells s.edit
answer s Commit = commit_answer s.edit
answer s Discard = discard_answer s.edit

-- what it leaves
abbrev pub step : State → Command → State
step s Open = record { cells = s.cells; edit = open_draft s.edit }
step s (Put c v) = record { cells = s.cells; edit = put_draft s.cells s.edit c v }
step s Check = record { cells = s.cells; edit = check_draft s.cells s.edit }
step s Commit = record { cells = commit_cells s.cells s.edit; edit = None }
step s Discard = record { cells = s.cells; edit = None }
