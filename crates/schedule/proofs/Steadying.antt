-- Up to its last second a look repeats itself.
use Rattle.std.proofs.Common.{◌≡◌, ℕ, ◌+◌, ◌-◌, ◌*◌, ◌<◌, ◌≤◌, Bool, false, cond, eqb, leb, List, [], ◌∷◌, ℤ, pos, ◌+ℤ◌, Some, None, filter, Option, sym, refl, ap, ◌∙◌, ap₂, inl, inr, arith}
use Rattle.std.proofs.lemmas.Bool.{or_parts, eqb-false, cases_lt, le-leb, lt-leb}
use Rattle.keeper.specs.Least.{least_later, IsLeast}
use Rattle.keeper.proofs.Leasts.{least_is, later_same}
use Rattle.schedule.specs.EventInForce.{has_started, started_by, latest_of, latest_or, event_in_force}
use Rattle.schedule.specs.Plans.{events_on}
use Rattle.schedule.specs.Boundaries.{Setting, local_at, day_at, time_at, events_at, starts_now, boundary, before_next, last_of}
use Rattle.schedule.specs.Looks.{setting_of, look_of}
use Rattle.schedule.specs.Laws.{Steady, LastWithin}
use Rattle.tables.specs.Cells.{Timetable}
use Rattle.tables.specs.declared.event.Event.{Event}
use Rattle.schedule.proofs.Running.{Free, calm, placed, inside, runs, no_start, events_at_lem}

-- an event that does not start after s, up to r, has started at r where it has at s
one_start : (m s r : ℕ) → s ≤ r → (s < m * 60 → m * 60 ≤ r → ⊥) → leb (m * 60) r ≡ leb (m * 60) s
one_start m s r h n =
    elim (cases_lt s (m * 60)) [
      | inl q ↦ let b : r < m * 60 = omega arith in lt-leb (m * 60) r b ∙ sym (lt-leb (m * 60) s q)
      | inr q ↦ le-leb (m * 60) r (omega arith) ∙ sym (le-leb (m * 60) s q)
    ]

started_same : (es : List Event) (s r : ℕ) → s ≤ r → ((j : ℕ) → s < j → j ≤ r → starts_now es j ≡ false) → filter (has_started r) es ≡ filter (has_started s) es
unfolding starts_now
started_same [] s r h n = refl
started_same (e ∷ es) s r h n =
    ap₂ (λ (b : Bool) (xs : List Event). cond b (e ∷ xs) xs)
    (one_start e.minute s r h (λ a b. eqb-false (e.minute * 60) (e.minute * 60) (or_parts (eqb (e.minute * 60) (e.minute * 60)) _ (n (e.minute * 60) a b)).0 refl))
    (started_same es s r h (λ j a b. (or_parts (eqb (e.minute * 60) j) _ (n j a b)).1))

module _ (z : Setting) (t u : ℕ) (h : t ≤ u) (n : Free z t u) where
  at : (k : ℕ) → t ≤ k → k ≤ u → (day_at z k ≡ day_at z t) × (time_at z k ≡ time_at z t + (k - t))
  at k a b = let w = inside z t u h n in placed z t k a (λ j c d. calm z t u n j c (omega arith)) (omega arith)

  none_starts : (j : ℕ) → time_at z t < j → j ≤ time_at z t + (u - t) → starts_now (events_at z t) j ≡ false
  none_starts j a b =
      let p = at (t + (j - time_at z t)) (omega arith) (omega arith) in
      let e : time_at z (t + (j - time_at z t)) ≡ j = omega (arith, p.1) in
      let q = no_start z (t + (j - time_at z t)) (n (t + (j - time_at z t)) (omega arith) (omega arith)) in
      ap₂ starts_now (sym (events_at_lem z _ t p.0)) (sym e) ∙ q

  day_same : day_at z u ≡ day_at z t
  day_same = (at u h (omega arith)).0

  started_on : started_by (time_at z u) (events_at z t) ≡ started_by (time_at z t) (events_at z t)
  unfolding started_by
  started_on =
      ap (λ (s : ℕ). filter (has_started s) (events_at z t)) (at u h (omega arith)).1
      ∙ started_same (events_at z t) (time_at z t) (time_at z t + (u - t)) (omega arith) none_starts

  last_same : last_of z u ≡ last_of z t
  unfolding last_of
  last_same = ap before_next (later_same (boundary z) t u 4294967295 h n)

-- up to the last second there is no boundary
free : (z : Setting) (t u : ℕ) (o : Option ℕ) → IsLeast (boundary z) t 4294967295 o → u ≤ before_next o → Free z t u
free z t u (Some m) l h = λ k a b. let w = l.later in l.first k a (omega arith)
free z t u None l h = λ k a b. l k a (omega arith)

until_last : (z : Setting) (t u : ℕ) → u ≤ last_of z t → Free z t u
unfolding last_of
until_last z t u h = free z t u (least_later (boundary z) t 4294967295) (least_is (boundary z) t 4294967295) h

-- the event in force goes by the day and the events that have started
event_same : (z : Timetable) (d : ℤ) (s r : ℕ) → started_by r (events_on z d) ≡ started_by s (events_on z d) → event_in_force z d r ≡ event_in_force z d s
unfolding event_in_force
event_same z d s r e = ap (λ (xs : List Event). latest_or z d (latest_of xs)) e

pub steady : Steady
unfolding look_of
steady z f t u h l =
    let n = until_last (setting_of z f) t u l in
    let local : local_at (setting_of z f) u ≡ local_at (setting_of z f) t +ℤ pos (u - t) = runs (setting_of z f) t u h (calm (setting_of z f) t u n) in
    let day : day_at (setting_of z f) u ≡ day_at (setting_of z f) t = day_same (setting_of z f) t u h n in
    let last : last_of (setting_of z f) u ≡ last_of (setting_of z f) t = last_same (setting_of z f) t u h n in
    let event : event_in_force z (day_at (setting_of z f) t) (time_at (setting_of z f) u) ≡ event_in_force z (day_at (setting_of z f) t) (time_at (setting_of z f) t) =
    event_same z (day_at (setting_of z f) t) (time_at (setting_of z f) t) (time_at (setting_of z f) u) (started_on (setting_of z f) t u h n) in
    rw (local, day, event, last)

between : (z : Setting) (t : ℕ) (o : Option ℕ) → t ≤ 4294967295 → IsLeast (boundary z) t 4294967295 o → (t ≤ before_next o) × (before_next o ≤ 4294967295)
between z t (Some n) h l = let a = l.later in let b = l.within in (omega arith, omega arith)
between z t None h l = (h, omega arith)

pub last_within : LastWithin
unfolding look_of last_of
last_within z f t h = between (setting_of z f) t (least_later (boundary (setting_of z f)) t 4294967295) h (least_is (boundary (setting_of z f)) t 4294967295)
