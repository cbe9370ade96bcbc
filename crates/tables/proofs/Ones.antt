-- The bits of a mask from 1 on are the set digits of its half.
use Rattle.std.proofs.Common.{◌≡◌, ℕ, zero, suc, ◌+◌, ◌*◌, ◌/◌, ◌%◌, ◌^◌, ◌<◌, cond, ◌==◌, count_ones, sym, refl, ap, ap₂, ◌∙◌, arith}
use Rattle.std.proofs.Math.Arith.{mod-mul}
use Rattle.std.proofs.Math.Nat.{add_comm, div-div-eq-div-mul, mod-lt, mod-one, pow-succ'}
use Rattle.std.proofs.lemmas.Nat.{ones_cat, pow_pos}
use Rattle.std.specs.Int.Count.{ones-ones}
use Rattle.tables.specs.Bits.{bit, bits_in}

one : (d : ℕ) → d < 2 → cond (d == 1) 1 0 ≡ count_ones d
one zero h = sym (ones-ones 0)
one (suc zero) h = sym (ones-ones 1)
one (suc (suc d)) h = absurd (omega arith)

module _ (mask : ℕ) where
  -- the digit n, and those below it
  split : (n : ℕ) → mask / 2 % 2 ^ suc n ≡ (mask / 2 / 2 ^ n % 2) * 2 ^ n + mask / 2 % 2 ^ n
  split n = ap (λ (k : ℕ). mask / 2 % k) (pow-succ' 2 n) ∙ mod-mul (mask / 2) (omega arith) (pow_pos n)

  same : (n : ℕ) → mask / 2 ^ suc n ≡ mask / 2 / 2 ^ n
  same n = ap (λ (k : ℕ). mask / k) (pow-succ' 2 n) ∙ sym (div-div-eq-div-mul mask 2 (2 ^ n))

  pub counted : (n : ℕ) → bits_in n mask ≡ count_ones (mask / 2 % 2 ^ n)
  unfolding bits_in
  counted zero = sym (ap count_ones (mod-one (mask / 2)) ∙ ones-ones 0)
  counted (suc n) =
      ap₂ ◌+◌ (counted n) (ap (λ (k : ℕ). cond (k % 2 == 1) 1 0) (same n) ∙ one (mask / 2 / 2 ^ n % 2) (mod-lt (mask / 2 / 2 ^ n) (omega arith)))
      ∙ add_comm (count_ones (mask / 2 % 2 ^ n)) (count_ones (mask / 2 / 2 ^ n % 2))
      ∙ sym (ap count_ones (split n) ∙ ones_cat n (mask / 2 / 2 ^ n % 2) (mask / 2 % 2 ^ n) (mod-lt (mask / 2) (pow_pos n)))
