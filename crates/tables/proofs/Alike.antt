-- Cells that are the same give the same timetable.
use Rattle.std.proofs.Common.{◌≡◌, ℕ, zero, suc, ◌+◌, ◌<◌, ◌≤◌, Bool, true, false, cond, eqb, [], ◌∷◌, ◌++◌, map, Option, refl, ap, ap₂, arith}
use Rattle.std.specs.List.{range_with_len}
use Rattle.std.proofs.lemmas.Bool.{eqb-false}
use Rattle.layout.specs.Layout.{row_cell, event_cell}
use Rattle.tables.specs.Numbered.{alone, numbered}
use Rattle.tables.specs.Cells.{row_at, event_at, plan_at, plans_at, timetable, SameCells}

-- the same numbered things
numbered_same : {X : Type 0} (at other : ℕ → Option X) (n : ℕ) → ((k : ℕ) → 1 ≤ k → k ≤ n → at k ≡ other k) → numbered at n ≡ numbered other n
unfolding numbered
numbered_same at other zero h = refl
numbered_same at other (suc n) h =
    ap₂ ◌++◌ (numbered_same at other n (λ k a b. h k a (omega arith))) (ap alone (h (suc n) (omega arith) (omega arith)))

map_same : {X : Type 0} (at other : ℕ → X) (a n : ℕ) → ((k : ℕ) → a ≤ k → k < a + n → at k ≡ other k) → map at (range_with_len a n) ≡ map other (range_with_len a n)
map_same at other a zero h = refl
map_same at other a (suc n) h =
    ap₂ ◌∷◌ (h a (omega arith) (omega arith)) (map_same at other (a + 1) n (λ k b c. h k (omega arith) (omega arith)))

module _ (cell other : ℕ → ℕ) (same : (c : ℕ) → c < 706 → cell c ≡ other c) where
  row_same : (r : ℕ) → 1 ≤ r → r ≤ 32 → row_at cell r ≡ row_at other r
  row_same r a b =
      rw (same (row_cell r) (omega arith), same (row_cell r + 1) (omega arith), same (row_cell r + 2) (omega arith), same (row_cell r + 3) (omega arith))

  event_same : (p e : ℕ) → 1 ≤ p → p ≤ 16 → 1 ≤ e → e ≤ 12 → event_at cell p e ≡ event_at other p e
  event_same p e a b c d =
      rw (same (event_cell p e) (omega arith), same (event_cell p e + 1) (omega arith), same (event_cell p e + 2) (omega arith))

  plan_by : (p : ℕ) (b : Bool) → eqb p 0 ≡ b → p < 17 → cond b [] (numbered (event_at cell p) 12) ≡ cond b [] (numbered (event_at other p) 12)
  plan_by p true q h = refl
  plan_by p false q h =
      let some = eqb-false p 0 q in
      numbered_same (event_at cell p) (event_at other p) 12 (λ e a b. event_same p e (omega arith) (omega arith) a b)

  plan_same : (p : ℕ) → p < 17 → plan_at cell p ≡ plan_at other p
  plan_same p h = plan_by p (eqb p 0) refl h

  plans_same : plans_at cell ≡ plans_at other
  unfolding plans_at
  plans_same = map_same (plan_at cell) (plan_at other) 0 17 (λ p a b. plan_same p b)

  timetable_same : timetable cell ≡ timetable other
  unfolding timetable
  timetable_same =
      let zone : cell 0 ≡ other 0 = same 0 (omega arith) in
      let flag : cell 1 ≡ other 1 = same 1 (omega arith) in
      let rows : numbered (row_at cell) 32 ≡ numbered (row_at other) 32 = numbered_same (row_at cell) (row_at other) 32 row_same in
      let plans = plans_same in
      rw (zone, flag, rows, plans)

pub same_cells : SameCells
same_cells cell other h = timetable_same cell other h
