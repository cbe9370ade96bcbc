use Rattle.std.proofs.Common.{◌*◌, ◌/◌, ◌%◌, ◌^◌, ◌<◌, ◌≤◌, ◌≡◌, count_ones, ℕ, sym, ap, ◌∙◌, arith, pow_mono}
use Rattle.std.proofs.Math.Nat.{mod-eq_of_lt}
use Rattle.tables.proofs.Ones.{counted}
use Rattle.tables.proofs.bits.count_bits.Goals as goal

pub returns : goal.returns
returns c =
    let n = c.args.last in
    let least : n ≤ 31 = omega arith in
    let p : 2 ^ n ≤ 2 ^ 31 = pow_mono least in
    let e : 1 * 2 ^ n ≡ 2 ^ n = omega arith in
    ap (λ (k : ℕ). count_ones (c.args.mask / 2 % (k % 4294967296))) e
    ∙ ap (λ (k : ℕ). count_ones (c.args.mask / 2 % k)) (mod-eq_of_lt (omega arith)) ∙ sym (counted c.args.mask n)
