use Rattle.std.proofs.Common.{◌∙◌, arith}
use Rattle.reread.proofs.Cells.{booked}
use Rattle.reread.proofs.booked.booked_cells.Goals as goal

pub returns : goal.returns
returns c =
    booked c.args.image.now c.args.calls.now c.in_ok-cells.cells.len c.cells_after.new.words c.in_ok-cells.cells.items c.as_mut_slice.result.now
    (omega arith) (c.as_mut_slice.ensures.value ∙ c.in_ok-cells.ensures.answer) c.cells_after.ensures.memory
