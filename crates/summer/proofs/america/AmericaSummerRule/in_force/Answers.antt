use Rattle.std.proofs.Common.{◌≡◌, rules}
use Rattle.summer.specs.Laws.{america}
use Rattle.summer.proofs.Lawful.{american}
use Rattle.summer.proofs.america.AmericaSummerRule.in_force.Goals as goal

pub returns : goal.returns
returns c =
    let e : c.in_force.result ≡ america c.args.offset c.args.second = search rules in
    record { answer = e; lawful = american c.args.offset c.args.second c.in_force.result e }
