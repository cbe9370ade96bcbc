-- Dates of 2000 to 2099 lie on the days from 10,957 to 47,481, and these days have such dates.
use Rattle.std.specs.Prelude.{◌≡◌, ℕ, ◌+◌, ◌/◌, ◌%◌, ◌≤◌, ℤ, pos, negsuc, ◌≤ℤ◌, unsigned_abs, refl}
use Rattle.std.proofs.Common.{subst, to_z}
use native.Mathlib.Omega.{arith}
use Rattle.std.proofs.lemmas.Int.{ints}
use Rattle.std.specs.Int.{w32}
use Rattle.calendar.specs.Dates.{InDays, IsDate, place_of}
use Rattle.calendar.specs.Months.{month_first_of, length_at, length_of}
use Rattle.calendar.proofs.MonthPlaces.{climbs, from_first, to_next}
use Rattle.chip.specs.declared.moment.Moment.{Moment}
use Rattle.chip.specs.Chip.{second_at}
use Rattle.chip.specs.Moment.{Within, days_to, seconds_to}

-- January 2000 and January 2100
opens : month_first_of 361 ≡ pos 10957
unfolding month_first_of length_at
opens = refl

closes : month_first_of 1561 ≡ pos 47482
unfolding month_first_of length_at
closes = refl

natural : (z : ℤ) → pos 0 ≤ℤ z → pos (unsigned_abs z) ≡ z
natural (pos n) h = refl
natural (negsuc n) h = absurd (omega (arith, ints))

module _ (y m d : ℕ) (years : Within 2000 y 2099) (months : Within 1 m 12) (days : Within 1 d (length_of y m)) where
  from_opening : pos 10957 ≤ℤ month_first_of (place_of y m)
  from_opening = let e = opens in let c = climbs 361 (place_of y m) (omega arith) in omega (arith, ints)

  pub dated : IsDate (pos (days_to y m d)) y m d
  unfolding days_to
  dated =
      let n = natural (month_first_of (place_of y m)) (let f = from_opening in omega (arith, ints)) in
      record {
        month_from = months.0;
        month_to = months.1;
        day_from = days.0;
        day_to = days.1;
        number = omega (arith, ints);
        begun = omega arith;
      }

  pub days_within : Within 10957 (days_to y m d) 47481
  days_within =
      let f = from_first (pos (days_to y m d)) y m d dated in
      let t = to_next (pos (days_to y m d)) y m d dated in
      let o = from_opening in
      let e = closes in
      let c = climbs (place_of y m + 1) 1561 (omega arith) in
      (omega (arith, ints), omega (arith, ints))

  pub numbered : (n : ℤ) → IsDate n y m d → n ≡ pos (days_to y m d)
  numbered n i = let a = i.number in let b = dated.number in omega (arith, ints)

-- the date of such a day is of 2000 to 2099
pub in_years : (k y m d : ℕ) → Within 10957 k 47481 → IsDate (pos k) y m d → Within 2000 y 2099
in_years k y m d w i =
    let f = from_first (pos k) y m d i in
    let t = to_next (pos k) y m d i in
    let o = opens in
    let e = closes in
    let p = i.month_from in let q = i.month_to in let b = i.begun in
    let early : y ≤ 1999 → ⊥ = λ h. let c = climbs (place_of y m + 1) 361 (omega arith) in omega (arith, ints) in
    let late : 2100 ≤ y → ⊥ = λ h. let c = climbs 1561 (place_of y m) (omega arith) in omega (arith, ints) in
    (omega arith, omega arith)

-- what holds of the date of a moment
module _ (m : Moment) where
  pub moment_dated : IsDate (pos (days_to m.year m.month m.day)) m.year m.month m.day
  moment_dated = dated m.year m.month m.day m.years m.months m.days

  pub moment_days : Within 10957 (days_to m.year m.month m.day) 47481
  moment_days = days_within m.year m.month m.day m.years m.months m.days

  pub moment_in_days : InDays (pos (days_to m.year m.month m.day))
  moment_in_days = let w = moment_days in record { from = omega (arith, ints); to = omega (arith, ints) }

  pub moment_numbered : (n : ℤ) → IsDate n m.year m.month m.day → n ≡ pos (days_to m.year m.month m.day)
  moment_numbered = numbered m.year m.month m.day m.years m.months m.days

  pub moment_second : Within 946684800 (second_at m) 4102444799
  unfolding seconds_to
  moment_second = let w = moment_days in (omega arith, omega arith)

-- the date on which a second of these years falls, and the second back from its date and time
module _ (s y m d : ℕ) (within : Within 946684800 s 4102444799) (found : IsDate (to_z w32 (s / 86400)) y m d) where
  pub date_at : IsDate (pos (s / 86400)) y m d
  date_at =
      let e : to_z w32 (s / 86400) ≡ pos (s / 86400) = omega (arith, ints) in
      subst (λ (n : ℤ). IsDate n y m d) e found

  pub year_at_lem : Within 2000 y 2099
  year_at_lem = in_years (s / 86400) y m d (omega arith, omega arith) date_at

  pub second_back : seconds_to y m d (s / 3600 % 24) (s / 60 % 60) (s % 60) ≡ s
  unfolding seconds_to
  second_back =
      let i = date_at in
      let e = numbered y m d year_at_lem (i.month_from, i.month_to) (i.day_from, i.day_to) (pos (s / 86400)) i in
      let n : days_to y m d ≡ s / 86400 = omega (arith, ints) in
      omega arith
