-- What an engine means when it is made.
use Rattle.std.proofs.Common.{◌≡◌, ℕ, List, None}
use Rattle.clock.specs.Time.{Meaning as Moment}
use Rattle.store.specs.Cells.{Memory}
use Rattle.schedule.specs.Looks.{Rule}
use Rattle.engine.specs.declared.engine.Engine.{Engine}
use Rattle.engine.specs.Engines.{drafted}
use Rattle.history.specs.History.{meaning, newly}

module _ {C S R : Type 0} (time : C → Moment) (cells : S → List ℕ) (memory : S → Memory) (in_force : R → Rule) where
  pub made : (e : Engine C S R) {clock : C} {store : S} {rule : R} → e.clock ≡ clock → e.store ≡ store → e.rule ≡ rule → drafted e.edit ≡ None
      → meaning time cells memory in_force e ≡ newly (time clock) (cells store) (memory store) (in_force rule)
  made e p q r s = λ i.
      record { time = time (p i); book = record { cells = cells (q i); edit = s i }; rule = in_force (r i); memory = memory (q i) }
