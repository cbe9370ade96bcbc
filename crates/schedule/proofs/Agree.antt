-- Rules that mean the same give the same looks.
use Rattle.std.proofs.Common.{◌≡◌, ℕ, ◌-◌, ◌≤◌, Bool, true, false, cond, leb, pos, negsuc, ◌-ℤ◌, ◌≤ℤ◌, refl, ap, arith}
use borrow.Author.Differences.{ints}
use Rattle.std.proofs.lemmas.Bool.{leb-true}
use Rattle.keeper.proofs.Leasts.{later_like}
use Rattle.tables.specs.Cells.{Timetable, offset_of, timetable}
use Rattle.schedule.specs.Boundaries.{Setting, local_at, day_at, time_at, boundary, before_next, last_of}
use Rattle.schedule.specs.Looks.{Rule, setting_of, look_of}
use Rattle.schedule.specs.Laws.{Agreeing}

module _ (z : Timetable) (f g : Rule) (same : (k : ℕ) → k ≤ 4294967295 → f z.offset k ≡ g z.offset k) where
  abbrev here : Setting
  here = setting_of z f

  abbrev there : Setting
  there = setting_of z g

  locals : (k : ℕ) → k ≤ 4294967295 → local_at here k ≡ local_at there k
  unfolding local_at
  locals k h = rw (same k h)

  days : (k : ℕ) → k ≤ 4294967295 → day_at here k ≡ day_at there k
  unfolding day_at
  days k h = rw (locals k h)

  times : (k : ℕ) → k ≤ 4294967295 → time_at here k ≡ time_at there k
  unfolding time_at
  times k h = rw (locals k h)

  boundaries : (k : ℕ) → k ≤ 4294967295 → boundary here k ≡ boundary there k
  unfolding boundary
  boundaries k h =
      let d = days k h in
      let t = times k h in
      let a = same k h in
      let b = same (k - 1) (omega arith) in
      rw (t, d, a, b)

  lasts : (t : ℕ) → last_of here t ≡ last_of there t
  unfolding last_of
  lasts t = ap before_next (later_like (boundary here) (boundary there) t 4294967295 (λ k u v. boundaries k v))

  looks : (t : ℕ) → t ≤ 4294967295 → look_of z f t ≡ look_of z g t
  unfolding look_of
  looks t h = rw (locals t h, days t h, times t h, lasts t)

-- a zone's offset is at most twelve hours either way
by_zone : (n : ℕ) (b : Bool) → leb n 86400 ≡ b → (negsuc 43199 ≤ℤ cond b (pos n -ℤ pos 43200) (pos 0)) × (cond b (pos n -ℤ pos 43200) (pos 0) ≤ℤ pos 43200)
by_zone n true e = let h = leb-true n 86400 e in (omega (arith, ints), omega (arith, ints))
by_zone n false e = (omega (arith, ints), omega (arith, ints))

pub agreeing : Agreeing
unfolding timetable
agreeing cell f g t same h =
    let (west, east) = by_zone (cell 0) (leb (cell 0) 86400) refl in
    looks (timetable cell) f g (λ k i. same (offset_of (cell 0)) k west east i) t h
