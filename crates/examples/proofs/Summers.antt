-- Europe's summer of 2024, and the winters beside it.
use Rattle.std.proofs.Common.{◌≡◌, ℕ, ◌+◌, ◌<◌, ◌≤◌, true, false, ℤ, pos, Some, sym, ◌∙◌, arith}
use borrow.Author.Differences.{ints}
use Rattle.keeper.specs.Least.{least_later, changes}
use Rattle.summer.specs.Years.{Current}
use Rattle.summer.specs.Laws.{europe, europe_from, europe_until}
use Rattle.summer.specs.Months.{europe_years}
use Rattle.summer.proofs.Nexts.{next_at}
use Rattle.summer.proofs.Spans.{on, off}
use Rattle.summer.proofs.Stars.{year, europe_until_53, europe_from_54, europe_until_54, europe_from_55, europe_until_55}

-- the year after year y has begun at t, where the summer of y is over and the next is not
current : (t y : ℕ) → y < 136 → europe_until y ≤ t → t < europe_until (y + 1) → Current europe_until (pos t) (y + 1)
current t y f a b = year europe_from europe_until europe_years (pos t) y f (omega (arith, ints)) (omega (arith, ints))

pub winter : (o : ℤ) (t : ℕ) → 1698541200 ≤ t → t < 1711846800 → europe o t ≡ false
winter o t a b =
    let p = europe_until_53 in let q = europe_from_54 in let r = europe_until_54 in
    off europe_from europe_until europe_years (pos t) 54 (current t 53 (omega arith) (omega arith) (omega arith)) (omega (arith, ints))

pub summer : (o : ℤ) (t : ℕ) → 1711846800 ≤ t → t < 1729990800 → europe o t ≡ true
summer o t a b =
    let p = europe_until_53 in let q = europe_from_54 in let r = europe_until_54 in
    on europe_from europe_until europe_years (pos t) 54 (current t 53 (omega arith) (omega arith) (omega arith)) (omega (arith, ints))

pub winter_again : (o : ℤ) (t : ℕ) → 1729990800 ≤ t → t < 1743296400 → europe o t ≡ false
winter_again o t a b =
    let p = europe_until_54 in let q = europe_from_55 in let r = europe_until_55 in
    off europe_from europe_until europe_years (pos t) 55 (current t 54 (omega arith) (omega arith) (omega arith)) (omega (arith, ints))

summer_again : (o : ℤ) → europe o 1743296400 ≡ true
summer_again o =
    let p = europe_until_54 in let q = europe_from_55 in let r = europe_until_55 in
    on europe_from europe_until europe_years (pos 1743296400) 55 (current 1743296400 54 (omega arith) (omega arith) (omega arith)) (omega (arith, ints))

module _ (o : ℤ) (t : ℕ) where
  pub next_in_winter : 1698541200 ≤ t → t < 1711846800 → least_later (changes (europe o)) t 4294967295 ≡ Some 1711846800
  next_in_winter a b =
      let here = winter o t a b in
      next_at (europe o) t 1711846800 4294967295 (λ m l u. winter o m (omega arith) u ∙ sym here) b (omega arith)
      (rw here (summer o 1711846800 (omega arith) (omega arith)))

  pub next_in_summer : 1711846800 ≤ t → t < 1729990800 → least_later (changes (europe o)) t 4294967295 ≡ Some 1729990800
  next_in_summer a b =
      let here = summer o t a b in
      next_at (europe o) t 1729990800 4294967295 (λ m l u. summer o m (omega arith) u ∙ sym here) b (omega arith)
      (rw here (winter_again o 1729990800 (omega arith) (omega arith)))

  pub next_in_winter_again : 1729990800 ≤ t → t < 1743296400 → least_later (changes (europe o)) t 4294967295 ≡ Some 1743296400
  next_in_winter_again a b =
      let here = winter_again o t a b in
      next_at (europe o) t 1743296400 4294967295 (λ m l u. winter_again o m (omega arith) u ∙ sym here) b (omega arith)
      (rw here (summer_again o))
