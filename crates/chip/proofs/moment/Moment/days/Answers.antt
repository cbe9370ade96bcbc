use Rattle.std.proofs.Common.{◌≡◌, ℤ, pos, nat_abs, subst, arith, w32, to_z, of_z}
use borrow.Author.Differences.{ints}
use Rattle.calendar.specs.Dates.{IsDate}
use Rattle.chip.specs.Moments.{moment_dated, moment_days, moment_in_days, moment_numbered}
use Rattle.chip.proofs.moment.Moment.days.Goals as goal

pub unreachable-requires : goal.unreachable-requires
unreachable-requires c = c.in-Err.ensures.1 _ (moment_in_days c.args.self.now) (moment_dated c.args.self.now)

pub overflow_cast-result : goal.overflow_cast-result
overflow_cast-result c =
    let e = moment_numbered c.args.self.now c.in-Ok.days c.in-Ok.ensures.1 in
    let w = moment_days c.args.self.now in
    (grind (arith, ints), grind (arith, ints))

pub returns : goal.returns
returns c =
    let e = moment_numbered c.args.self.now c.in-Ok.days c.in-Ok.ensures.1 in
    let w = moment_days c.args.self.now in
    let n : c.in-Ok.days ≡ pos (nat_abs (to_z w32 (of_z w32 c.in-Ok.days))) = omega (arith, ints) in
    record {
      answer = omega (arith, ints);
      dated = subst (λ (z : ℤ). IsDate z c.args.self.now.year c.args.self.now.month c.args.self.now.day) n c.in-Ok.ensures.1;
      within = (omega (arith, ints), omega (arith, ints));
    }
