-- The ends of both laws near 2024, by year from 1970, and what they show.
use Rattle.std.proofs.Common.{◌≡◌, ℕ, ◌+◌, ◌-◌, ◌<◌, ℤ, pos, negsuc, ◌+ℤ◌, ◌≤ℤ◌, ◌<ℤ◌, refl, arith}
use borrow.Author.Differences.{ints}
use Rattle.calendar.specs.Months.{month_first_of, length_at}
use Rattle.summer.specs.Sundays.{first_day}
use Rattle.summer.specs.Years.{Ascending, Current}
use Rattle.summer.specs.Laws.{america_from, america_until, europe_from, europe_until}
use Rattle.summer.specs.Examples.{Examples}
use Rattle.summer.proofs.Spans.{until_le, on, off, end_at}
use Rattle.summer.specs.Months.{europe_years, america_years}

-- the year of a moment, from the ends of two years
pub year : (from until : ℕ → ℕ) (asc : Ascending from until) (t : ℤ) (y : ℕ) → y < 136 → pos (until y) ≤ℤ t → t <ℤ pos (until (y + 1)) → Current until t (y + 1)
year from until asc t y f a b = record {
  few = omega arith;
  before = λ k h. let u = until_le from until asc k y (omega arith) in omega (arith, ints);
  here = b;
}

america_until_53 : america_until 53 ≡ 1699164000 - 18000
unfolding first_day month_first_of length_at
america_until_53 = refl

america_from_54 : america_from 54 ≡ 1710054000 - 18000
unfolding first_day month_first_of length_at
america_from_54 = refl

america_until_54 : america_until 54 ≡ 1730613600 - 18000
unfolding first_day month_first_of length_at
america_until_54 = refl

america_until_55 : america_until 55 ≡ 1762063200 - 18000
unfolding first_day month_first_of length_at
america_until_55 = refl

america_from_55 : america_from 55 ≡ 1741503600 - 18000
unfolding first_day month_first_of length_at
america_from_55 = refl

pub europe_until_53 : europe_until 53 ≡ 1698541200
unfolding first_day month_first_of length_at
europe_until_53 = refl

pub europe_from_54 : europe_from 54 ≡ 1711846800
unfolding first_day month_first_of length_at
europe_from_54 = refl

pub europe_until_54 : europe_until 54 ≡ 1729990800
unfolding first_day month_first_of length_at
europe_until_54 = refl

pub europe_from_55 : europe_from 55 ≡ 1743296400
unfolding first_day month_first_of length_at
europe_from_55 = refl

pub europe_until_55 : europe_until 55 ≡ 1761440400
unfolding first_day month_first_of length_at
europe_until_55 = refl

america_at : (s : ℕ) → pos (america_until 53) ≤ℤ (pos s +ℤ negsuc 17999) → (pos s +ℤ negsuc 17999) <ℤ pos (america_until 54) → Current america_until (pos s +ℤ negsuc 17999) 54
america_at s a b = year america_from america_until america_years (pos s +ℤ negsuc 17999) 53 (omega arith) a b

pub examples : Examples
examples =
    let p = america_until_53 in let q = america_from_54 in let r = america_until_54 in let f = america_from_55 in let u = america_until_55 in
    let p' = europe_until_53 in let q' = europe_from_54 in let r' = europe_until_54 in let f' = europe_from_55 in let u' = europe_until_55 in
    record {
      before = off america_from america_until america_years _ 54 (america_at 1710053999 (omega (arith, ints)) (omega (arith, ints))) (omega (arith, ints));
      first = on america_from america_until america_years _ 54 (america_at 1710054000 (omega (arith, ints)) (omega (arith, ints))) (omega (arith, ints));
      last = on america_from america_until america_years _ 54 (america_at 1730613599 (omega (arith, ints)) (omega (arith, ints))) (omega (arith, ints));
      after = off america_from america_until america_years (pos 1730595600) 55 (year america_from america_until america_years (pos 1730595600) 54 (omega arith) (omega (arith, ints)) (omega (arith, ints))) (omega (arith, ints));
      next = end_at america_from america_until america_years (negsuc 17999) 1710054000 54 (america_at 1710054000 (omega (arith, ints)) (omega (arith, ints))) 1730613600 4294967295 (omega (arith, ints)) (omega (arith, ints)) (omega (arith, ints)) (omega arith);
      summer = on europe_from europe_until europe_years (pos 1729990799) 54 (year europe_from europe_until europe_years (pos 1729990799) 53 (omega arith) (omega (arith, ints)) (omega (arith, ints))) (omega (arith, ints));
      winter = off europe_from europe_until europe_years (pos 1729990800) 55 (year europe_from europe_until europe_years (pos 1729990800) 54 (omega arith) (omega (arith, ints)) (omega (arith, ints))) (omega (arith, ints));
    }
