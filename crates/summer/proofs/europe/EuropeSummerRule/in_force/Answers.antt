use Rattle.std.proofs.Common.{◌≡◌, rules}
use Rattle.summer.specs.Laws.{europe}
use Rattle.summer.proofs.Lawful.{european}
use Rattle.summer.proofs.europe.EuropeSummerRule.in_force.Goals as goal

pub returns : goal.returns
returns c =
    let e : c.in_force.result ≡ europe c.args.offset c.args.second = search rules in
    record { answer = e; lawful = european c.args.offset c.args.second c.in_force.result e }
