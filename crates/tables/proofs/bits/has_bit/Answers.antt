use Rattle.std.proofs.Common.{◌≡◌, ℕ, ◌/◌, ◌%◌, ◌^◌, ◌<◌, ◌≤◌, false, eqb, sym, ap, ◌∙◌, arith, pow_mono}
use Rattle.std.proofs.lemmas.Nat.{div_below, pow_pos}
use Rattle.std.proofs.lemmas.Bool.{le-ltb}
use Rattle.tables.specs.Bits.{bit}
use Rattle.tables.proofs.bits.has_bit.Goals as goal

-- a mask of 32 bits has none above them
high : (mask n : ℕ) → mask < 4294967296 → 32 ≤ n → bit mask n ≡ false
high mask n h l =
    let p : 2 ^ 32 ≤ 2 ^ n = pow_mono l in
    let q : mask / 2 ^ n < 1 = div_below mask (2 ^ n) 1 (pow_pos n) (omega arith) in
    let e : mask / 2 ^ n ≡ 0 = omega arith in
    ap (λ (k : ℕ). eqb (k % 2) 1) e

pub returns-else-n-lt32 : goal.returns-else-n-lt32
returns-else-n-lt32 c =
    record { answer = le-ltb c.args.n 32 c.if-n-lt32.false ∙ sym (high c.args.mask c.args.n c.ranges.mask.fits c.if-n-lt32.false) }
