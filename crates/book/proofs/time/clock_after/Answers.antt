use Rattle.std.proofs.Common.{◌∙◌, arith}
use Rattle.book.proofs.Turns.{moved_end, moved_turn}
use Rattle.book.proofs.time.clock_after.Goals as goal

pub loop-call-preserved : goal.loop-call-preserved
loop-call-preserved g c = moved_turn c.args.calls.now c.loop-call.call-index _ _ _ (omega arith) c.move_by.ensures ∙ c.loop-call.invariant

pub returns : goal.returns
returns g c = moved_end c.args.calls.now c.loop-call.call-index _ _ (omega arith) ∙ c.loop-call.invariant
