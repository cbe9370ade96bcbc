-- What an engine made of some parts means. Assumes nothing.
use Rattle.std.specs.Prelude.{ℕ, List}
use Rattle.clock.specs.Time.{Meaning as Moment}
use Rattle.store.specs.Cells.{Memory}
use Rattle.schedule.specs.Looks.{Rule}
use Rattle.history.specs.History.{Meaning, newly}
use Rattle.archive.specs.declared.parts.Parts.{Parts}

-- no edit is open; the rest is what the parts mean
abbrev pub begins : {C S R : Type 0} → (C → Moment) → (S → List ℕ) → (S → Memory) → (R → Rule) → Parts C S R → Meaning
begins clock cells memory in_force p = newly (clock p.clock) (cells p.store) (memory p.store) (in_force p.rule)
