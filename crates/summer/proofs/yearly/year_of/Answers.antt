use Rattle.std.proofs.Common.{◌+◌, ◌/◌, arith}
use borrow.Author.Differences.{ints}
use Rattle.summer.proofs.Spans.{until_le}
use Rattle.summer.proofs.yearly.year_of.Goals as goal

pub loop-low-preserved-then-last-t : goal.loop-low-preserved-then-last-t
loop-low-preserved-then-last-t g c =
    let i = c.loop-low.invariant in let mid = (c.loop-low.low + c.loop-low.high) / 2 in (
      omega arith,
      omega arith,
      (λ k h. let u = until_le g.L.Yearly.from g.L.Yearly.until g.met.L.Yearly.ascending k mid (omega arith) in omega (arith, ints)),
      i.3,
    )
