-- The month and the date of a day are those of its only date.
use Rattle.std.proofs.Common.{◌≡◌, ℕ, ◌+◌, ◌-◌, ◌<◌, ◌≤◌, true, false, ℤ, pos, ◌+ℤ◌, ◌-ℤ◌, nat_abs, ◌≤ℤ◌, ◌<ℤ◌, Some, None, Option, sym, ap, ◌∙◌, subst, inl, inr, arith}
use borrow.Author.Differences.{ints}
use lib.Signed.{lt_z}
use Rattle.calendar.specs.Months.{month_first_of, year_at}
use Rattle.std.proofs.lemmas.Bool.{cases_lt}
use Rattle.calendar.specs.Dates.{InDays, IsDate, place_of}
use Rattle.calendar.proofs.MonthPlaces.{begins, climbs, ends, found, from_first, to_next}
use Rattle.keeper.specs.Least.{Least, IsLeast}
use Rattle.keeper.proofs.Leasts.{least_is, least_only}
use Rattle.schedule.specs.Days.{next_month, month_before, date_before, month_of, date_of, DaysHaveDates}

below : (a b : ℤ) → a <ℤ b → lt_z a b ≡ true
below a b h = grind (arith, ints)

above : (a b : ℤ) → b ≤ℤ a → lt_z a b ≡ false
above a b h = grind (arith, ints)

module _ (d : ℤ) (y m k : ℕ) (i : IsDate d y m k) (h : InDays d) where
  early : place_of y m < 1635
  early =
      let late : 1635 ≤ place_of y m → ⊥ = λ g.
      let a = climbs 1635 (place_of y m) g in let e = ends in let f = from_first d y m k i in let t = h.to in omega (arith, ints) in
      omega arith

  next_month_lem : next_month d ≡ Some (place_of y m + 1)
  unfolding next_month
  next_month_lem =
      sym (least_only (λ j. lt_z d (month_first_of j)) 0 1635 (Some (place_of y m + 1)) (record {
        later = omega arith;
        within = let e = early in omega arith;
        holds = below d (month_first_of (place_of y m + 1)) (to_next d y m k i);
        first = λ j a b. above d (month_first_of j) (let u = climbs j (place_of y m) (omega arith) in let v = from_first d y m k i in omega (arith, ints));
      }))

  pub month_is : month_of d ≡ m
  unfolding month_of
  month_is = let a = i.month_from in let b = i.month_to in let c = i.begun in ap month_before next_month_lem ∙ omega arith

  pub date_is : date_of d ≡ k
  unfolding date_of
  date_is =
      let n = i.number in
      let e : place_of y m + 1 - 1 ≡ place_of y m = omega arith in
      let f : month_first_of (place_of y m + 1 - 1) ≡ month_first_of (place_of y m) = ap month_first_of e in
      let g : (d -ℤ month_first_of (place_of y m + 1 - 1)) +ℤ pos 1 ≡ pos k = omega (arith, ints) in
      ap (date_before d) next_month_lem ∙ ap nat_abs g

-- the parts of the date that the calendar answers for the same day
pub record Parts (d : ℤ) (m k : ℕ) : Type 0 where
  pub month : m ≡ month_of d
  pub date : k ≡ date_of d

pub parts : (d e : ℤ) (y m k : ℕ) → IsDate e y m k → e ≡ d → InDays d → Parts d m k
parts d e y m k i q h =
    let j : IsDate d y m k = subst (λ (x : ℤ). IsDate x y m k) q i in
    record { month = sym (month_is d y m k j h); date = sym (date_is d y m k j h) }

-- every day of the calendar has a month and a date
lies_in : (d : ℤ) (k : ℕ) → InDays d → Least (λ j. lt_z d (month_first_of j)) 0 1635 k → (month_first_of (k - 1) ≤ℤ d) × (d <ℤ month_first_of (k - 1 + 1))
lies_in d k h l =
    let p = l.later in
    let e : month_first_of (k - 1 + 1) ≡ month_first_of k = ap month_first_of (omega arith) in
    let u : lt_z d (month_first_of k) ≡ true = l.holds in
    let start : month_first_of (k - 1) ≤ℤ d =
    elim (cases_lt 0 (k - 1)) [
      | inl q ↦ let v : lt_z d (month_first_of (k - 1)) ≡ false = l.first (k - 1) q (omega arith) in grind (arith, ints)
      | inr q ↦ let z : month_first_of (k - 1) ≡ month_first_of 0 = ap month_first_of (omega arith) in let b = begins in let f = h.from in omega (arith, ints)
    ] in
    (start, grind (arith, ints))

dated : (d : ℤ) (o : Option ℕ) → InDays d → IsLeast (λ j. lt_z d (month_first_of j)) 0 1635 o → (y : ℕ) × IsDate d y (month_before o) (date_before d o)
dated d (Some k) h l =
    let (a, b) = lies_in d k h l in
    let n : pos (nat_abs ((d -ℤ month_first_of (k - 1)) +ℤ pos 1)) ≡ (d -ℤ month_first_of (k - 1)) +ℤ pos 1 = omega (arith, ints) in
    (year_at (k - 1), found d (k - 1) (nat_abs ((d -ℤ month_first_of (k - 1)) +ℤ pos 1)) a b n)
dated d None h l = let u : lt_z d (month_first_of 1635) ≡ false = l 1635 (omega arith) (omega arith) in let e = ends in let t = h.to in absurd (grind (arith, ints))

pub days_have_dates : DaysHaveDates
unfolding next_month month_of date_of
days_have_dates d h = dated d (next_month d) h (least_is (λ j. lt_z d (month_first_of j)) 0 1635)
