-- What a Put leaves of the entries.
use Rattle.std.proofs.Common.{◌≡◌, ℕ, ◌+◌, ◌<◌, ◌≤◌, Bool, true, false, eqb, ltb, max, List, [], ◌∷◌, ◌++◌, length, take, set, cond, Some, None, refl, ap, ◌∙◌, arith, length-take}
use lib.Seq.{take-set-lt}
use Rattle.std.proofs.lemmas.List.{take_more_set}
use Rattle.std.proofs.lemmas.Bool.{ltb-true, lt-ltb}
use Rattle.std.specs.List.{position}
use Rattle.std.specs.Option.{unwrap_or}
use Rattle.store.specs.declared.entry.Entry.{Entry}
use Rattle.layout.specs.Layout.{in_range}
use Rattle.edit.specs.Drafts.{note_draft, entry, place_in, noted, has_room}

module _ (t : List Entry) (n c v : ℕ) (room_for : n ≤ length t) where
  front_length : length (take n t) ≡ n
  front_length = omega (arith, length-take n t)

  abbrev place : ℕ
  place = place_in (take n t) c

  -- an entry is written where the cell stands, or behind the others
  written : (b : Bool) (i : ℕ) → ltb place (length (take n t)) ≡ b → i ≡ unwrap_or (cond b (Some place) None) n → i < length t
      → take (max n (i + 1)) (set t i (entry c v)) ≡ cond b (set (take n t) place (entry c v)) (take n t ++ entry c v ∷ [])
  written true i h e l =
      let lt : i < n = omega (arith, ltb-true place (length (take n t)) h, front_length) in
      let m : max n (i + 1) ≡ n = omega arith in
      ap (λ (k : ℕ). take k (set t i (entry c v))) m ∙ take-set-lt n t i (entry c v) lt ∙ ap (λ (k : ℕ). set (take n t) k (entry c v)) e
  written false i h e l =
      let m : max n (i + 1) ≡ i + 1 = omega arith in
      ap (λ (k : ℕ). take k (set t i (entry c v))) m ∙ take_more_set t i (entry c v) l ∙ ap (λ (k : ℕ). take k t ++ entry c v ∷ []) e

  roomy : (b : Bool) (i : ℕ) → i ≡ unwrap_or (cond b (Some place) None) n → i < 64 → cond b true (ltb (length (take n t)) 64) ≡ true
  roomy true i e l = refl
  roomy false i e l = lt-ltb (length (take n t)) 64 (omega (arith, front_length))

  pub note_written : (checked : Bool) (i m : ℕ) → in_range c v ≡ true → length t ≡ 64 → i ≡ unwrap_or (position (λ e. eqb e.cell c) (take n t)) n → i < 64 → m ≡ max n (i + 1)
      → record { entries = take m (set t i (entry c v)); marked = false } ≡ note_draft (record { entries = take n t; marked = checked }) c v
  note_written checked i m range long e l em =
      let b = ltb place (length (take n t)) in
      let room : has_room (take n t) c ≡ true = roomy b i e l in
      let new : take m (set t i (entry c v)) ≡ noted (take n t) c v = ap (λ (k : ℕ). take k (set t i (entry c v))) em ∙ written b i refl e (omega arith) in
      rw (range, room, new)
