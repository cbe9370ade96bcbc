-- What an edit means: the values recorded for cells, and its mark. Assumes nothing.
use Rattle.std.specs.Prelude.{ℕ, ◌^◌, ◌<◌, Bool, true, false, cond, List, [], ◌∷◌, ◌++◌, length, set, Ok, Err, fold, Result, ◌==◌, nat_lt, slice_index_or, slice_set}
use Rattle.std.specs.List.{position_or_len}
use Rattle.layout.specs.Layout.{in_range, width}
use Rattle.refusal.specs.declared.refusal.Refusal.{Refusal}
use Rattle.refusal.specs.declared.refusal.Refusal.TheVariants.{BadValue, EditFull}
use Rattle.store.specs.declared.entry.Entry.{Entry}

abbrev pub entry : ℕ → ℕ → Entry
entry c v = record { cell = c; value = v }

-- the recorded values in the order of their cells' first recording, and the mark of a good check
pub record Draft : Type 0 where
  pub entries : List Entry
  pub marked : Bool

-- where the cell c stands, or the length
abbrev pub place_in : List Entry → ℕ → ℕ
place_in es c = position_or_len (λ e. e.cell == c) es

-- a value for the cell c, over an older one
abbrev pub noted : List Entry → ℕ → ℕ → List Entry
noted es c v = cond (nat_lt (place_in es c) (length es)) (slice_set es (place_in es c) (entry c v)) (es ++ entry c v ∷ [])

-- there is an older one, or room for a further cell
abbrev pub has_room : List Entry → ℕ → Bool
has_room es c = cond (nat_lt (place_in es c) (length es)) true (nat_lt (length es) 64)

-- a value out of the cell's range is refused, then a 65th cell
abbrev pub note_answer : Draft → ℕ → ℕ → Result (Unit {0}) Refusal
note_answer d c v = cond (in_range c v) (cond (has_room d.entries c) (Ok tt) (Err EditFull)) (Err BadValue)

-- what is accepted is recorded, and takes the mark away
abbrev pub note_draft : Draft → ℕ → ℕ → Draft
note_draft d c v =
    cond (in_range c v) (cond (has_room d.entries c) (record { entries = noted d.entries c v; marked = false }) d) d

-- the cells with the entries written into them
abbrev pub overwritten : List ℕ → List Entry → List ℕ
overwritten cs es = fold (λ (xs : List ℕ) (e : Entry). set xs e.cell e.value) cs es

-- the value fits each store
abbrev pub Fitting : Entry → Type 0
Fitting e = e.value < 256 ^ width e.cell

-- so do the first n
abbrev pub Fits : ℕ → List Entry → Type 0
Fits n es = (k : ℕ) → k < n → Fitting (slice_index_or es k (entry 0 0))
