-- Whether summer time is in force, and when it next changes, for any law of one span a year, ascending.
use Rattle.std.proofs.Common.{◌≡◌, ℕ, zero, suc, ◌+◌, ◌-◌, ◌<◌, ◌≤◌, Bool, true, false, not, ◌&&◌, ℤ, pos, ◌+ℤ◌, ◌≤ℤ◌, ◌<ℤ◌, Some, None, Decides, sym, refl, ap, ◌∙◌, subst, arith}
use borrow.Author.Differences.{ints}
use lib.Signed.{le_z, lt_z}
use Rattle.std.proofs.lemmas.Bool.Decides.{same_from_decides, Decides-and, Decides-below_or}
use Rattle.summer.specs.Years.{some_year, summer_at, hour_on, InSomeYear, Ascending, Current}
use Rattle.keeper.specs.Least.{least_later, changes}
use Rattle.summer.proofs.Nexts.{next_at, next_past}

decides-le_z : (a b : ℤ) → Decides (le_z a b) (a ≤ℤ b)
decides-le_z a b = (λ e. grind (arith, ints), λ h. grind (arith, ints))

decides-lt_z : (a b : ℤ) → Decides (lt_z a b) (a <ℤ b)
decides-lt_z a b = (λ e. grind (arith, ints), λ h. grind (arith, ints))

pub le_z_yes : (a b : ℤ) → a ≤ℤ b → le_z a b ≡ true
le_z_yes a b h = (decides-le_z a b).1 h

pub le_z_no : (a b : ℤ) → b <ℤ a → le_z a b ≡ false
le_z_no a b h = grind (arith, ints)

pub moved : {until : ℕ → ℕ} {t : ℤ} {y : ℕ} (t' : ℤ) → Current until t y → t ≡ t' → Current until t' y
moved {until} {t} {y} t' c e = subst (λ (x : ℤ). Current until x y) e c

module _ (from until : ℕ → ℕ) (asc : Ascending from until) where
  pub until_climbs : (k j : ℕ) → until k ≤ until (k + j)
  until_climbs k zero = let e : until (k + 0) ≡ until k = ap until (omega arith) in omega arith
  until_climbs k (suc j) =
      let e : until (k + suc j) ≡ until (k + j + 1) = ap until (omega arith) in
      let h = until_climbs k j in
      let a = asc.closes (k + j) in let b = asc.opens (k + j + 1) in omega arith

  pub until_le : (k l : ℕ) → k ≤ l → until k ≤ until l
  until_le k l h = subst (λ (m : ℕ). until k ≤ until m) (omega arith) (until_climbs k (l - k))

  pub until_near : (k : ℕ) → k ≤ 135 → until k ≤ 4294924095
  until_near k h = let u = until_le k 135 h in let n = asc.near in omega arith

  pub until_from : (k l : ℕ) → k < l → until k < from l
  until_from k l h =
      let e : from l ≡ from (l - 1 + 1) = ap from (omega arith) in
      let a = until_le k (l - 1) (omega arith) in
      let b = asc.closes (l - 1) in omega arith

  pub in_force_lem : (t : ℤ) (y : ℕ) → Current until t y → summer_at from until t ≡ le_z (pos (from y)) t
  unfolding some_year
  in_force_lem t y c =
      let P : ℕ → Type 0 = λ k. (pos (from k) ≤ℤ t) × (t <ℤ pos (until k)) in
      let p : ℕ → Bool = λ k. le_z (pos (from k)) t && lt_z t (pos (until k)) in
      let h = c.here in let f = c.few in
      same_from_decides (some_year p 137) (le_z (pos (from y)) t)
      (Decides-below_or p P (some_year p) (λ k. Decides-and _ _ (decides-le_z (pos (from k)) t) (decides-lt_z t (pos (until k)))) refl (λ _. refl) 137) (
        (λ e. let g = (decides-le_z (pos (from y)) t).0 e in (y, omega arith, (g, h))),
        (λ w.
            let k = w.0 in let a = w.2.0 in let b = w.2.1 in
            let no_less : k < y → ⊥ = λ l. let z = c.before k l in omega (arith, ints) in
            let no_more : y < k → ⊥ = λ l. let z = until_from y k l in omega (arith, ints) in
            let same : k ≡ y = omega arith in
            let e : from k ≡ from y = ap from same in
            le_z_yes (pos (from y)) t (omega (arith, ints))),
      )

  pub answers : (t a b : ℤ) (y : ℕ) → Current until b y → b ≡ t → a ≡ pos (from y) → le_z a b ≡ summer_at from until t
  answers t a b y c e f = rw (f, e) (sym (in_force_lem t y (moved t c e)))

  pub off : (t : ℤ) (y : ℕ) → Current until t y → t <ℤ pos (from y) → summer_at from until t ≡ false
  off t y c h = in_force_lem t y c ∙ le_z_no (pos (from y)) t h

  pub on : (t : ℤ) (y : ℕ) → Current until t y → pos (from y) ≤ℤ t → summer_at from until t ≡ true
  on t y c h = in_force_lem t y c ∙ le_z_yes (pos (from y)) t h

  -- the answer over seconds at an offset z, from a second s whose year is y
  module _ (z : ℤ) (s y : ℕ) (now : Current until (pos s +ℤ z) y) where
    answer : ℕ → Bool
    answer m = summer_at from until (pos m +ℤ z)

    later : (m : ℕ) → s ≤ m → (pos m +ℤ z) <ℤ pos (until y) → Current until (pos m +ℤ z) y
    later m l u = record { few = now.few; before = λ k h. let b = now.before k h in omega (arith, ints); here = u }

    next_year : (m : ℕ) → pos m +ℤ z ≡ pos (until y) → y < 136 → Current until (pos m +ℤ z) (y + 1)
    next_year m e h = record {
      few = omega arith;
      before = λ k l. let b = until_le k y (omega arith) in omega (arith, ints);
      here = let a = asc.closes y in let b = asc.opens (y + 1) in omega (arith, ints);
    }

    module _ (n limit : ℕ) (small : (pos limit +ℤ z) ≤ℤ pos 4295010496) where
      module _ (winter : (pos s +ℤ z) <ℤ pos (from y)) (e : pos n +ℤ z ≡ pos (from y)) where
        is_false : (m : ℕ) → s ≤ m → m < n → answer m ≡ false
        unfolding answer
        is_false m l u = let o = asc.opens y in off (pos m +ℤ z) y (later m l (omega (arith, ints))) (omega (arith, ints))

        is_true : answer n ≡ not (answer s)
        unfolding answer
        is_true =
            let o = asc.opens y in
            on (pos n +ℤ z) y (later n (omega (arith, ints)) (omega (arith, ints))) (omega (arith, ints))
            ∙ ap not (sym (is_false s (omega arith) (omega (arith, ints))))

        stays : (m : ℕ) → s ≤ m → m < n → answer m ≡ answer s
        stays m l u = is_false m l u ∙ sym (is_false s (omega arith) (omega (arith, ints)))

        pub start_at : n ≤ limit → least_later (changes (λ m. summer_at from until (pos m +ℤ z))) s limit ≡ Some n
        unfolding answer
        start_at h = next_at (λ m. summer_at from until (pos m +ℤ z)) s n limit stays (omega (arith, ints)) h is_true

      module _ (summer : pos (from y) ≤ℤ (pos s +ℤ z)) (e : pos n +ℤ z ≡ pos (until y)) where
        was_true : (m : ℕ) → s ≤ m → m < n → answer m ≡ true
        unfolding answer
        was_true m l u = on (pos m +ℤ z) y (later m l (omega (arith, ints))) (omega (arith, ints))

        ends : n ≤ limit → answer n ≡ not (answer s)
        unfolding answer
        ends h =
            let a = asc.closes y in let b = asc.past in let f = now.few in let q = now.here in
            let ne : y ≡ 136 → ⊥ = λ e136. let g : from y ≡ from 136 = ap from e136 in omega (arith, ints) in
            off (pos n +ℤ z) (y + 1) (next_year n e (omega arith)) (omega (arith, ints))
            ∙ ap not (sym (was_true s (omega arith) (omega (arith, ints))))

        remains : (m : ℕ) → s ≤ m → m < n → answer m ≡ answer s
        remains m l u = let q = now.here in was_true m l u ∙ sym (was_true s (omega arith) (omega (arith, ints)))

        pub end_at : n ≤ limit → least_later (changes (λ m. summer_at from until (pos m +ℤ z))) s limit ≡ Some n
        unfolding answer
        end_at h = let q = now.here in next_at (λ m. summer_at from until (pos m +ℤ z)) s n limit remains (omega (arith, ints)) h (ends h)

      module _ (late : y ≡ 136) (inside : s ≤ limit) where
        over : (m : ℕ) → s ≤ m → m ≤ limit → answer m ≡ false
        unfolding answer
        over m l u =
            let o = asc.opens y in let b = asc.past in let g : from y ≡ from 136 = ap from late in
            off (pos m +ℤ z) y (later m l (omega (arith, ints))) (omega (arith, ints))

        pub none_left : least_later (changes (λ m. summer_at from until (pos m +ℤ z))) s limit ≡ None
        unfolding answer
        none_left =
            next_past (λ m. summer_at from until (pos m +ℤ z)) s (limit + 1) limit
            (λ m l u. over m l (omega arith) ∙ sym (over s (omega arith) inside)) (omega arith)

-- the test by moments is the law by days, where each year has just one day of each kind
module _ (Begins Ends : ℕ → ℕ → Type 0) (h i : ℕ) (first last : ℕ → ℕ)
    (begins : (k : ℕ) → Begins k (first k)) (one-begin : (k d : ℕ) → Begins k d → d ≡ first k)
    (ends : (k : ℕ) → Ends k (last k)) (one_end : (k d : ℕ) → Ends k d → d ≡ last k) (t : ℤ) where
  within : ℕ → Bool
  within k = le_z (pos (hour_on (first k) h)) t && lt_z t (pos (hour_on (last k) i))

  each : (k : ℕ) → Decides (within k) ((pos (hour_on (first k) h) ≤ℤ t) × (t <ℤ pos (hour_on (last k) i)))
  unfolding within
  each k = Decides-and _ _ (decides-le_z _ t) (decides-lt_z t _)

  pub lawful : Decides (summer_at (λ k. hour_on (first k) h) (λ k. hour_on (last k) i) t) (InSomeYear Begins h Ends i t)
  unfolding some_year within
  lawful =
      let d = Decides-below_or within _ (some_year within) each refl (λ _. refl) 137 in (
        (λ e. let w = d.0 e in record {
          year = w.0;
          known = omega (arith, w.1);
          first = first w.0;
          begins = begins w.0;
          last = last w.0;
          ends = ends w.0;
          begun = w.2.0;
          lasting = w.2.1;
        }),
        (λ y.
            let e = one-begin y.year y.first y.begins in
            let f = one_end y.year y.last y.ends in
            let k = y.known in let a = y.begun in let b = y.lasting in
            d.1 (y.year, omega arith, (omega (arith, ints), omega (arith, ints)))),
      )
