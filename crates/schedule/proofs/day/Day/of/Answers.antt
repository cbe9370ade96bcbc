use Rattle.std.proofs.Common.{arith, rules}
use borrow.Author.Differences.{ints}
use Rattle.std.proofs.lemmas.Int.{to_z-of_z}
use Rattle.schedule.proofs.Dated.{parts}
use Rattle.schedule.proofs.day.Day.of.Goals as goal

pub returns : goal.returns
returns c =
    let p = parts c.args.number _ _ _ _ c.in-Ok.ensures.1 (omega (arith, ints)) c.requires in
    record { month = p.month; weekday = search (rules, to_z-of_z); date = p.date }
