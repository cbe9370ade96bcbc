-- What the ranges of the masks mean, bit by bit.
use Rattle.std.proofs.Common.{◌≡◌, ℕ, zero, suc, ◌+◌, ◌*◌, ◌/◌, ◌%◌, ◌^◌, ◌<◌, ◌≤◌, Decides, sym, ap, ◌∙◌, ⊎_elim, mod-lt, mod-eq_of_lt, one-add, arith, pow_mono}
use Rattle.layout.specs.Layout.{Bit, only, OnlyBits}
use Rattle.std.proofs.lemmas.Nat.{le-div, pow_pos, shr-shr}
use Rattle.std.proofs.lemmas.Bool.{cases_lt, eqb-true, eq-eqb}
use lib.Bits.{bit_and, and_high}
use native.Mathlib.Nat.{div-eq_of_lt}

-- a mask of j bits from bit 1 on
mask_means : (j v m : ℕ) → bit_and v m ≡ v / 2 % j * 2 → 0 < j → Decides (only m v) ((v % 2 ≡ 0) × (v / 2 < j))
mask_means j v m e h = (
  (λ t. let q : v / 2 % j * 2 ≡ v = sym e ∙ eqb-true (bit_and v m) v t in
      let l : v / 2 % j < j = mod-lt (v / 2) h in
      (omega (arith, q), omega (arith, q, l))),
  (λ p. let r : v / 2 % j ≡ v / 2 = mod-eq_of_lt p.1 in
      eq-eqb (bit_and v m) v (e ∙ ap (λ (x : ℕ). x * 2) r ∙ omega (arith, p.0))),
)

half : (v n : ℕ) → v / 2 / 2 ^ n ≡ v / 2 ^ suc n
half v n = shr-shr v 1 n ∙ ap (λ (k : ℕ). v / 2 ^ k) (one-add n)

-- a number that is not 0 has a bit
some_bit : (fuel v : ℕ) → 0 < v → v ≤ fuel → (n : ℕ) × Bit n v
some_bit zero v p h = absurd (omega arith)
some_bit (suc fuel) v p h =
    ⊎_elim
    (λ (even : v % 2 < 1).
    let r = some_bit fuel (v / 2) (omega arith) (omega arith) in
    (suc r.0, sym (ap (λ (x : ℕ). x % 2) (half v r.0)) ∙ r.1))
    (λ (odd : 1 ≤ v % 2). (0, omega arith))
    (cases_lt (v % 2) 1)

even_below : (last v : ℕ) → (v % 2 ≡ 0) × (v / 2 < 2 ^ last) → OnlyBits 1 last v
even_below last v p zero b = absurd (omega arith)
even_below last v p (suc n) b =
    ⊎_elim
    (λ (past : last < suc n).
    let l = pow_mono {i = last} {j = n} (omega arith) in
    let z : v / 2 / 2 ^ n ≡ 0 = div-eq_of_lt (omega arith) in
    let h = half v n in absurd (omega arith))
    (λ (within : suc n ≤ last). (omega arith, within))
    (cases_lt last (suc n))

bits_even : (last v : ℕ) → OnlyBits 1 last v → (v % 2 ≡ 0) × (v / 2 < 2 ^ last)
bits_even last v f = (
  ⊎_elim (λ even. omega arith) (λ (odd : 1 ≤ v % 2). let h = (f 0 (omega arith)).0 in absurd (omega arith)) (cases_lt (v % 2) 1),
  ⊎_elim (λ below. below)
      (λ (past : 2 ^ last ≤ v / 2).
      let m = v / 2 / 2 ^ last in
      let some : 0 < v / 2 / 2 ^ last = le-div 1 (v / 2) (2 ^ last) (pow_pos last) (omega arith) in
      let r = some_bit m m some (omega arith) in
      let e : m / 2 ^ r.0 ≡ v / 2 ^ (suc last + r.0) = ap (λ (x : ℕ). x / 2 ^ r.0) (half v last) ∙ shr-shr v (suc last) r.0 in
      let h = (f (suc last + r.0) (sym (ap (λ (x : ℕ). x % 2) e) ∙ r.1)).1 in absurd (omega arith))
      (cases_lt (v / 2) (2 ^ last)),
)

ranges : (last v m : ℕ) → bit_and v m ≡ v / 2 % 2 ^ last * 2 → Decides (only m v) (OnlyBits 1 last v)
ranges last v m e =
    let d = mask_means (2 ^ last) v m e (pow_pos last) in
    ((λ t. even_below last v (d.0 t)), (λ f. d.1 (bits_even last v f)))

pub months_only : (v : ℕ) → Decides (only 8190 v) (OnlyBits 1 12 v)
months_only v = ranges 12 v 8190 (and_high v 12 1)

pub weekdays_only : (v : ℕ) → Decides (only 254 v) (OnlyBits 1 7 v)
weekdays_only v = ranges 7 v 254 (and_high v 7 1)

pub dates_only : (v : ℕ) → Decides (only 4294967294 v) (OnlyBits 1 31 v)
dates_only v = ranges 31 v 4294967294 (and_high v 31 1)

-- what `allows` promises of every mask
pub ruleset mask_ranges = (months_only, weekdays_only, dates_only)
