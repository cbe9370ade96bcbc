-- What an engine stands for, and what its calls leave alone. Assumes nothing.
use Rattle.std.specs.Prelude.{◌≡◌, ℕ, List, Some, None, Ok, Err, Option, Result}
use Rattle.edit.specs.declared.edit.Edit.{Edit}
use Rattle.edit.specs.Drafts.{Draft}
use Rattle.edit.specs.Edits.{draft_of}
use Rattle.refusal.specs.declared.refusal.Refusal.{Refusal}
use Rattle.store.specs.Cells.{Memory}
use Rattle.engine.specs.declared.ticket.Ticket.{Ticket}
use Rattle.engine.specs.declared.engine.Engine.{Engine}
use Rattle.engine.specs.Book.{State}

-- the edit that stands open, by its meaning
abbrev pub drafted : Option Edit → Option Draft
drafted None = None
drafted (Some e) = Some (draft_of e)

-- what Open answers, tickets aside
abbrev pub opened : Result Ticket Refusal → Result (Unit {0}) Refusal
opened (Ok t) = Ok tt
opened (Err r) = Err r

module _ {C S R : Type 0} where
  -- the book's state: the cells of the store and the open edit
  abbrev pub state_of : (S → List ℕ) → Engine C S R → State
  state_of cells e = record { cells = cells e.store; edit = drafted e.edit }

  -- nothing but the clock's time and span may have changed
  pub record OnlyTime (before after : Engine C S R) : Type 0 where
    pub store : after.store ≡ before.store
    pub rule : after.rule ≡ before.rule
    pub edit : after.edit ≡ before.edit

  -- nothing but the edit may have changed
  pub record OnlyEdit (before after : Engine C S R) : Type 0 where
    pub clock : after.clock ≡ before.clock
    pub store : after.store ≡ before.store
    pub rule : after.rule ≡ before.rule

  -- nothing but cells and the edit may have changed: the memory past the cells is untouched
  pub record OnlyCells (memory_of : S → Memory) (before after : Engine C S R) : Type 0 where
    pub clock : after.clock ≡ before.clock
    pub rule : after.rule ≡ before.rule
    pub memory : memory_of after.store ≡ memory_of before.store
