-- Firsts of months and their Sundays, as natural numbers from January 1970 on.
use Rattle.std.specs.Prelude.{◌≡◌, ℕ, zero, suc, ◌+◌, ◌*◌, ◌%◌, ◌<◌, ◌≤◌, ℤ, pos, ◌+ℤ◌, Some, nat_lt, unsigned_abs, refl}
use Rattle.std.proofs.Common.{sym, ap, subst, ◌∙◌, arith}
use Rattle.std.proofs.lemmas.Int.{ints}
use Rattle.std.proofs.lemmas.Bool.{cond-true, lt-ltb}
use Rattle.calendar.specs.Months.{month_first_of, first_at, length_at, year_at, month_at}
use Rattle.localtime.specs.Weekdays.{weekday_of}
use Rattle.calendar.proofs.MonthPlaces.{next, long}
use Rattle.summer.specs.Sundays.{first_day, first_sunday, last_sunday, Sunday, IsLastSunday, IsFirstSunday, IsSecondSunday}
use Rattle.summer.specs.Years.{Ascending}
use Rattle.summer.specs.Laws.{europe_from, europe_until, america_from, america_until}

pub nat_of : (m : ℕ) → month_first_of (m + 1) ≡ pos (first_day m)
unfolding first_day month_first_of length_at
nat_of zero = refl
nat_of (suc m) =
    let q : suc m + 1 ≡ suc (m + 1) = omega arith in
    let e : month_first_of (suc m + 1) ≡ month_first_of (m + 1) +ℤ pos (length_at (m + 1)) = ap month_first_of q in
    let f : month_first_of (suc m + 1) ≡ pos (first_day m + length_at (m + 1)) = e ∙ ap (λ (x : ℤ). x +ℤ pos (length_at (m + 1))) (nat_of m) in
    f ∙ ap pos (sym (ap unsigned_abs f))

-- the first that the table has
pub day_of_lem : (m : ℕ) (d : ℤ) → m < 1635 → Some d ≡ first_at (m + 1) → d ≡ pos (first_day m)
day_of_lem m d h e =
    let i : m + 1 < 1636 = omega arith in
    let f : Some d ≡ Some (month_first_of (m + 1)) = e ∙ cond-true (nat_lt (m + 1) 1636) _ _ (lt-ltb (m + 1) 1636 i) in
    let g : d ≡ month_first_of (m + 1) = cc in
    g ∙ nat_of m

-- a month has 28 days or more
pub far : (m : ℕ) → first_day m + 28 ≤ first_day (m + 1)
unfolding length_at
far m =
    let e = next (m + 1) in let a = nat_of m in let b = nat_of (m + 1) in
    let l : 28 ≤ length_at (m + 1) = long (year_at (m + 1)) (month_at (m + 1)) in
    omega (arith, ints)

climbs : (m j : ℕ) → first_day m + j * 28 ≤ first_day (m + j)
climbs m zero = let e : first_day (m + 0) ≡ first_day m = ap first_day (omega arith) in omega arith
climbs m (suc j) =
    let e : first_day (m + suc j) ≡ first_day (m + j + 1) = ap first_day (omega arith) in
    let h = climbs m j in let f = far (m + j) in omega arith

apart : (m n j : ℕ) → n ≡ m + j → first_day m + j * 28 ≤ first_day n
apart m n j e = subst (λ (x : ℕ). first_day m + j * 28 ≤ first_day x) (sym e) (climbs m j)

march_2106 : first_day 1634 ≡ 49732
unfolding first_day month_first_of length_at
march_2106 = refl

november_2105 : first_day 1630 ≡ 49612
unfolding first_day month_first_of length_at
november_2105 = refl

-- a Sunday by its remainder
sunday_is : (d : ℕ) → (d + 4) % 7 ≡ 0 → Sunday d
unfolding weekday_of
sunday_is d h = omega (arith, ints)

sunday_mod : (d : ℕ) → Sunday d → (d + 4) % 7 ≡ 0
unfolding weekday_of
sunday_mod d h = omega (arith, ints)

-- the formulas give the last, the first and the second Sunday
pub last_in : (m : ℕ) → IsLastSunday m (last_sunday m)
last_in m =
    let f = far m in
    record {
      from = omega arith;
      to = omega arith;
      is = sunday_is (last_sunday m) (omega arith);
      none = λ e l u i. let j = sunday_mod e i in omega arith;
    }

pub first_in : (m : ℕ) → IsFirstSunday m (first_sunday m)
first_in m =
    let f = far m in
    record {
      from = omega arith;
      to = omega arith;
      is = sunday_is (first_sunday m) (omega arith);
      none = λ e l u i. let j = sunday_mod e i in omega arith;
    }

pub second_in : (m : ℕ) → IsSecondSunday m (first_sunday m + 7)
second_in m =
    let f = far m in
    record {
      first = first_sunday m;
      earlier = first_in m;
      after = omega arith;
      to = omega arith;
      is = sunday_is (first_sunday m + 7) (omega arith);
      none = λ e l u i. let j = sunday_mod e i in omega arith;
    }

-- and there is only one of each
pub last_only : (m d : ℕ) → IsLastSunday m d → d ≡ last_sunday m
last_only m d i =
    let j = last_in m in
    let a : d < last_sunday m → ⊥ = λ h. i.none (last_sunday m) h j.to j.is in
    let b : last_sunday m < d → ⊥ = λ h. j.none d h i.to i.is in
    omega arith

pub first_only : (m d : ℕ) → IsFirstSunday m d → d ≡ first_sunday m
first_only m d i =
    let j = first_in m in
    let a : first_sunday m < d → ⊥ = λ h. i.none (first_sunday m) j.from h j.is in
    let b : d < first_sunday m → ⊥ = λ h. j.none d i.from h i.is in
    omega arith

pub second_only : (m d : ℕ) → IsSecondSunday m d → d ≡ first_sunday m + 7
second_only m d i =
    let j = second_in m in
    let e = first_only m i.first i.earlier in
    let a : first_sunday m + 7 < d → ⊥ = λ h. i.none (first_sunday m + 7) (omega arith) h j.is in
    let s = sunday_mod d i.is in let l = i.after in
    omega arith

last_near : (m : ℕ) → (last_sunday m < first_day (m + 1)) × (first_day (m + 1) ≤ last_sunday m + 7)
last_near m = let f = far m in (omega arith, omega arith)

first_near : (m : ℕ) → (first_day m ≤ first_sunday m) × (first_sunday m ≤ first_day m + 6)
first_near m = (omega arith, omega arith)

pub europe_years : Ascending europe_from europe_until
europe_years = record {
  opens = λ k. let a = last_near (12 * k + 2) in let b = last_near (12 * k + 9) in let c = apart (12 * k + 2 + 1) (12 * k + 9 + 1) 7 (omega arith) in omega arith;
  closes = λ k. let a = last_near (12 * k + 9) in let b = last_near (12 * (k + 1) + 2) in let c = apart (12 * k + 9 + 1) (12 * (k + 1) + 2 + 1) 5 (omega arith) in omega arith;
  near = let a = last_near 1629 in let d = november_2105 in omega arith;
  past = let a = last_near 1634 in let c = far 1634 in let d = march_2106 in omega arith;
}

pub america_years : Ascending america_from america_until
america_years = record {
  opens = λ k. let a = first_near (12 * k + 2) in let b = first_near (12 * k + 10) in let c = apart (12 * k + 2) (12 * k + 10) 8 (omega arith) in omega arith;
  closes = λ k. let a = first_near (12 * k + 10) in let b = first_near (12 * (k + 1) + 2) in let c = apart (12 * k + 10) (12 * (k + 1) + 2) 4 (omega arith) in omega arith;
  near = let a = first_near 1630 in let d = november_2105 in omega arith;
  past = let a = first_near 1634 in let d = march_2106 in omega arith;
}
