-- Some Puts, one after another. Assumes nothing.
use Rattle.std.specs.Prelude.{◌≡◌, ℕ, true, List, [], ◌∷◌, Ok, Result, slice_set}
use Rattle.layout.specs.Layout.{in_range}
use Rattle.refusal.specs.declared.refusal.Refusal.{Refusal}
use Rattle.std.specs.Result.{result_and}
use Rattle.store.specs.Cells.{put_answer, put_cells}
use Rattle.store.specs.declared.entry.Entry.{Entry}

-- what they make of the cells
abbrev pub puts_cells : List ℕ → (ℕ → ℕ) → List Entry → List ℕ
puts_cells cs w [] = cs
puts_cells cs w (e ∷ es) = puts_cells (put_cells cs w e.cell e.value) w es

-- the first refusal among their answers, if any
abbrev pub puts_answer : List ℕ → (ℕ → ℕ) → List Entry → Result (Unit {0}) Refusal
puts_answer cs w [] = Ok tt
puts_answer cs w (e ∷ es) = result_and (put_answer cs w e.cell e.value) (puts_answer (put_cells cs w e.cell e.value) w es)

-- each entry is a value that its cell may have
abbrev pub InRange : List Entry → Type 0
InRange [] = Unit {0}
InRange (e ∷ es) = (in_range e.cell e.value ≡ true) × InRange es

-- the cells with each entry written over them
abbrev pub overwritten : List ℕ → List Entry → List ℕ
overwritten cs [] = cs
overwritten cs (e ∷ es) = overwritten (slice_set cs e.cell e.value) es
