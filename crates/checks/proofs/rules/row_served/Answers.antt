use Rattle.std.proofs.Common.{arith}
use Rattle.checks.proofs.Firsts.{none_past}
use Rattle.std.proofs.lemmas.Bool.Decides.{nat_tests}
use Rattle.checks.proofs.rules.row_served.Goals as goal

pub returns-else-plan-from : goal.returns-else-plan-from
returns-else-plan-from c =
    let none = none_past c.args.t.now c.cell_at-plan.result (omega arith) (omega arith) in
    grind (arith, nat_tests, none, c.cell_at-plan.ensures, c.row_cell.ensures)
