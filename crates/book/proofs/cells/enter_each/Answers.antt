use Rattle.std.proofs.Common.{◌∙◌, arith}
use Rattle.book.proofs.Turns.{kept_end, kept_turn}
use Rattle.book.proofs.cells.enter_each.Goals as goal

pub loop-call-preserved : goal.loop-call-preserved
loop-call-preserved g c =
    let i = c.loop-call.invariant in
    let e = c.perform.ensures in
    record { book = kept_turn c.args.calls.now c.loop-call.call-index _ _ (omega arith) e.book ∙ i.book; memory = e.memory ∙ i.memory }

pub returns : goal.returns
returns g c =
    let i = c.loop-call.invariant in
    record { book = kept_end c.args.calls.now c.loop-call.call-index _ (omega arith) ∙ i.book; memory = i.memory }
