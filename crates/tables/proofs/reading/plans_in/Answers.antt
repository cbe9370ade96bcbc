use Rattle.std.proofs.Common.{rules, tests}
use Rattle.layout.proofs.Ranges.{made}
use Rattle.tables.specs.Cells.{cell_at, plan_at, plans_at}
use Rattle.tables.specs.Filled.{things_in}
use Rattle.tables.proofs.reading.plans_in.Goals as goal

pub returns : goal.returns
unfolding plans_at
returns c = made _ _ things_in (plan_at (cell_at c.args.cells.now)) (λ x y q k. search (rules, tests)) c.from_fn.result 17 c.from_fn.ensures.items
