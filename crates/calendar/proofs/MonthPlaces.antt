use Rattle.std.proofs.Common.{◌≡◌, ℕ, zero, suc, ◌+◌, ◌-◌, ◌*◌, ◌/◌, ◌%◌, ◌<◌, ◌≤◌, Bool, true, false, cond, eqb, ℤ, pos, negsuc, ◌+ℤ◌, ◌-ℤ◌, ◌≤ℤ◌, ◌<ℤ◌, refl, ap, subst, add-zero, add-one, arith}
use borrow.Author.Differences.{ints}
use Rattle.calendar.specs.Months.{month_first_of, length_at, length_of, leap, year_at, month_at}
use Rattle.calendar.specs.Dates.{InDays, IsDate}

pub begins : month_first_of 0 ≡ negsuc 30
unfolding month_first_of
begins = refl

pub ends : month_first_of 1635 ≡ pos 49732
unfolding month_first_of length_at
ends = refl

pub next : (k : ℕ) → month_first_of (k + 1) ≡ month_first_of k +ℤ pos (length_at k)
unfolding month_first_of
next k = ap month_first_of (add-one k)

pick : (b : Bool) (x y n : ℕ) → x ≤ n → y ≤ n → cond b x y ≤ n
pick true x y n p q = p
pick false x y n p q = q

pick_from : (b : Bool) (x y n : ℕ) → n ≤ x → n ≤ y → n ≤ cond b x y
pick_from true x y n p q = p
pick_from false x y n p q = q

pub short : (y m : ℕ) → length_of y m ≤ 31
short y m =
    pick (eqb m 2) _ _ 31 (pick (leap y) 29 28 31 (omega arith) (omega arith))
    (pick (eqb m 4) _ _ 31 (omega arith) (pick (eqb m 6) _ _ 31 (omega arith) (pick (eqb m 9) _ _ 31 (omega arith) (pick (eqb m 11) 30 31 31 (omega arith) (omega arith)))))

pub long : (y m : ℕ) → 28 ≤ length_of y m
long y m =
    pick_from (eqb m 2) _ _ 28 (pick_from (leap y) 29 28 28 (omega arith) (omega arith))
    (pick_from (eqb m 4) _ _ 28 (omega arith) (pick_from (eqb m 6) _ _ 28 (omega arith) (pick_from (eqb m 9) _ _ 28 (omega arith) (pick_from (eqb m 11) 30 31 28 (omega arith) (omega arith)))))

pub within : (k : ℕ) (n : ℤ) → n <ℤ month_first_of (k + 1) → n <ℤ (month_first_of k +ℤ pos 31)
unfolding length_at
within k n h =
    let e = next k in
    let s : length_at k ≤ 31 = short (year_at k) (month_at k) in
    omega (arith, ints)

pub found : (n : ℤ) (k d : ℕ) → month_first_of k ≤ℤ n → n <ℤ month_first_of (k + 1) → pos d ≡ (n -ℤ month_first_of k) +ℤ pos 1
    → IsDate n (1969 + (k + 11) / 12) ((k + 11) % 12 + 1) d
unfolding length_at
found n k d from to e =
    let f = next k in
    let at : (1969 + (k + 11) / 12) * 12 + ((k + 11) % 12 + 1) - 23640 ≡ k = omega arith in
    record {
      month_from = omega arith;
      month_to = omega arith;
      day_from = omega (arith, ints);
      day_to = let g : d ≤ length_at k = omega (arith, ints) in g;
      number = rw at (omega (arith, ints));
      begun = omega arith;
    }

pub rises : (k j : ℕ) → month_first_of k ≤ℤ month_first_of (k + j)
unfolding length_at
rises k zero = let e : month_first_of (k + 0) ≡ month_first_of k = ap month_first_of (add-zero k) in omega (arith, ints)
rises k (suc j) =
    let h = rises k j in
    let e : month_first_of (k + suc j) ≡ month_first_of (k + j + 1) = ap month_first_of (omega arith) in
    let f = next (k + j) in
    omega (arith, ints)

pub climbs : (k l : ℕ) → k ≤ l → month_first_of k ≤ℤ month_first_of l
climbs k l h = subst (λ (m : ℕ). month_first_of k ≤ℤ month_first_of m) (omega arith) (rises k (l - k))

-- a day lies in one month
pub one_month : (n : ℤ) (k l : ℕ) → month_first_of k ≤ℤ n → n <ℤ month_first_of (k + 1) → month_first_of l ≤ℤ n → n <ℤ month_first_of (l + 1) → k ≡ l
one_month n k l a b c d =
    let p : l < k → ⊥ = λ h. let r = climbs (l + 1) k (omega arith) in omega (arith, ints) in
    let q : k < l → ⊥ = λ h. let r = climbs (k + 1) l (omega arith) in omega (arith, ints) in
    omega arith

module _ (n : ℤ) (y m d : ℕ) (i : IsDate n y m d) where
  pub same_length : length_at (y * 12 + m - 23640) ≡ length_of y m
  unfolding length_at
  same_length =
      let p = i.month_from in let q = i.month_to in let b = i.begun in
      let e : 1969 + (y * 12 + m - 23640 + 11) / 12 ≡ y = omega arith in
      let f : (y * 12 + m - 23640 + 11) % 12 + 1 ≡ m = omega arith in
      rw (e, f)

  pub from_first : month_first_of (y * 12 + m - 23640) ≤ℤ n
  from_first = let e = i.number in let p = i.day_from in omega (arith, ints)

  pub to_next : n <ℤ month_first_of (y * 12 + m - 23640 + 1)
  to_next =
      let e = i.number in let p = i.day_to in let q = same_length in
      let f = next (y * 12 + m - 23640) in omega (arith, ints)

pub only : (n : ℤ) (y m d y' m' d' : ℕ) → IsDate n y m d → IsDate n y' m' d' → (y ≡ y') × (m ≡ m') × (d ≡ d')
only n y m d y' m' d' i j =
    let k : y * 12 + m - 23640 ≡ y' * 12 + m' - 23640 =
    one_month n _ _ (from_first n y m d i) (to_next n y m d i) (from_first n y' m' d' j) (to_next n y' m' d' j) in
    let e : month_first_of (y * 12 + m - 23640) ≡ month_first_of (y' * 12 + m' - 23640) = ap month_first_of k in
    let p = i.month_from in let q = i.month_to in let b = i.begun in let a = i.number in
    let p' = j.month_from in let q' = j.month_to in let b' = j.begun in let a' = j.number in
    (omega arith, omega arith, omega (arith, ints))

-- what the way back cites: the month at a place k has a first and an end within the calendar
pub record Bounds (k : ℕ) : Type 0 where
  pub low : negsuc 30 ≤ℤ month_first_of k
  pub up : month_first_of k ≤ℤ month_first_of (k + 1)
  pub high : month_first_of (k + 1) ≤ℤ pos 49732

pub bounds : (k : ℕ) → k < 1635 → Bounds k
bounds k h =
    let a = climbs 0 k (omega arith) in
    let u = climbs k (k + 1) (omega arith) in
    let b = climbs (k + 1) 1635 (omega arith) in
    let e = begins in let f = ends in
    record { low = omega (arith, ints); up = u; high = omega (arith, ints) }

pub late : (n : ℤ) (y m d : ℕ) → 25275 ≤ y * 12 + m → InDays n → IsDate n y m d → ⊥
late n y m d h r i =
    let a = climbs 1635 (y * 12 + m - 23640) (omega arith) in
    let e = ends in let f = from_first n y m d i in let t = r.to in
    omega (arith, ints)

pub made : (n : ℤ) (y m d k : ℕ) → 1 ≤ m → m ≤ 12 → 23640 ≤ y * 12 + m → k ≡ y * 12 + m - 23640 → k < 1635
    → 1 ≤ d → pos d ≤ℤ (month_first_of (k + 1) -ℤ month_first_of k) → n +ℤ pos 1 ≡ month_first_of k +ℤ pos d → InDays n × IsDate n y m d
unfolding length_at
made n y m d k p q b e h l u s =
    let g = bounds k h in
    let f = next k in
    let v : year_at k ≡ y = omega arith in
    let w : month_at k ≡ m = omega arith in
    let t : length_at k ≡ length_of y m = rw (v, w) in (
      record { from = omega (arith, ints); to = omega (arith, ints) },
      record {
        month_from = p;
        month_to = q;
        day_from = l;
        day_to = let z : d ≤ length_at k = omega (arith, ints) in subst (λ (x : ℕ). d ≤ x) t z;
        number = rw (← e) s;
        begun = b;
      },
    )

pub no_day : (n : ℤ) (y m d k : ℕ) → k ≡ y * 12 + m - 23640 → ((month_first_of (k + 1) -ℤ month_first_of k) <ℤ pos d) → IsDate n y m d → ⊥
no_day n y m d k e h i =
    let f = next (y * 12 + m - 23640) in
    let l = same_length n y m d i in
    let t = i.day_to in
    let g : (month_first_of (y * 12 + m - 23640 + 1) -ℤ month_first_of (y * 12 + m - 23640)) <ℤ pos d = rw (← e) h in
    omega (arith, ints)
