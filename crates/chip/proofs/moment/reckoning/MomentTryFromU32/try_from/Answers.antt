use Rattle.std.proofs.Common.{arith}
use Rattle.std.proofs.lemmas.Bool.Decides.{nat_tests}
use Rattle.chip.specs.Moments.{date_at, year_at_lem, second_back}
use Rattle.chip.proofs.moment.reckoning.MomentTryFromU32.try_from.Goals as goal

pub invariant_of-result : goal.invariant_of-result
invariant_of-result c =
    let y = year_at_lem c.args.second _ _ _ (omega arith, omega arith) c.in-Ok.ensures.1 in
    let i = date_at c.args.second _ _ _ (omega arith, omega arith) c.in-Ok.ensures.1 in
    record { years = y; months = (i.month_from, i.month_to); days = (i.day_from, i.day_to); hours = omega arith; minutes = omega arith; seconds = omega arith }

pub returns : goal.returns
returns c = (grind (arith, nat_tests), second_back c.args.second _ _ _ (omega arith, omega arith) c.in-Ok.ensures.1)
