-- The worked orders. Assumes nothing.
use Rattle.std.specs.Prelude.{◌≡◌, ℕ, ◌≤◌, List, [], ◌∷◌, length, Some, None, Ok, Err, Result}
use Rattle.refusal.specs.declared.refusal.Refusal.TheVariants.{NoCell, EditOpen, NotChecked, BadOrder}
use Rattle.runner.specs.declared.stopped.Stopped.{Stopped}
use Rattle.engine.specs.Book.{State, unedited}
use Rattle.runner.specs.Run.{ran, ran_answer}
use Rattle.edit.specs.Drafts.{Draft}

-- what an order answers on some cells
abbrev pub ran_on : List ℕ → List ℕ → Result (Unit {0}) Stopped
ran_on cells order = ran_answer (record { cells = cells; edit = None }) order

-- 01 40; 01 30; 01 10 00; an empty order; 01 30 20; 01 01 40; 40; 01 40 20
abbrev pub orders : List (List ℕ)
orders =
    (0x01 ∷ 0x40 ∷ []) ∷ (0x01 ∷ 0x30 ∷ []) ∷ (0x01 ∷ 0x10 ∷ 0x00 ∷ []) ∷ [] ∷ (0x01 ∷ 0x30 ∷ 0x20 ∷ []) ∷ (0x01 ∷ 0x01 ∷ 0x40 ∷ []) ∷ (0x40 ∷ []) ∷ (0x01 ∷ 0x40 ∷ 0x20 ∷ []) ∷ []

-- accepted; refused with 9 at place 1; with 10 at the places 1, 0, 1, 1, 0 and 1
abbrev pub ordered : List (Result (Unit {0}) Stopped)
ordered =
    Ok tt ∷
    Err (record { place = 1; why = NotChecked }) ∷
    Err (record { place = 1; why = BadOrder }) ∷
    Err (record { place = 0; why = BadOrder }) ∷
    Err (record { place = 1; why = BadOrder }) ∷
    Err (record { place = 1; why = BadOrder }) ∷
    Err (record { place = 0; why = BadOrder }) ∷
    Err (record { place = 1; why = BadOrder }) ∷ []

-- 01, a Put of 0 to cell 65,535, 40
abbrev pub stray_put : List ℕ
stray_put = 0x01 ∷ 0x10 ∷ 0xff ∷ 0xff ∷ 0x00 ∷ 0x00 ∷ 0x00 ∷ 0x00 ∷ 0x40 ∷ []

-- some cells during an edit
abbrev pub during : List ℕ → Draft → State
during cells edit = record { cells = cells; edit = Some edit }

-- what these two do
pub record OrdersStop : Type 0 where
  -- a Put that is refused in the middle of an order leaves the cells as they were, and no edit open
  pub stray : (made : List ℕ) → length made ≤ 65535 → ran_on made stray_put ≡ Err (record { place = 1; why = NoCell })
  pub undone : (made : List ℕ) → length made ≤ 65535 → ran (unedited made) stray_put ≡ unedited made
  -- during an edit an order is refused at its Open, and that edit stays
  pub busy : (made : List ℕ) (edit : Draft) → ran_answer (during made edit) (0x01 ∷ 0x40 ∷ []) ≡ Err (record { place = 0; why = EditOpen })
  pub stays : (made : List ℕ) (edit : Draft) → ran (during made edit) (0x01 ∷ 0x40 ∷ []) ≡ during made edit
