use Rattle.std.proofs.Common.{refl, ap, ◌∙◌, arith}
use Rattle.store.specs.Words.{word_cells}
use Rattle.reread.proofs.Wholes.{found}
use Rattle.reread.proofs.examining.examine.Goals as goal

pub returns : goal.returns
returns c =
    let did = c.looks-meter.ensures in
    let places = c.in_ok-answers.ensures.len in
    found c.args.image.now c.args.calls.now c.as_mut_slice.result.now c.looks-meter.new.answers c.in_ok-answers.answers.items
    c.in_ok-answers.answers.len _ c.looks-meter.result.0 c.looks-meter.result.1 refl (omega arith) (omega arith) (omega arith)
    (word_cells c.as_mut_slice-2.result.now) c.booked_time-time.result did.answers did.meter did.reader
    (ap word_cells c.as_mut_slice-2.ensures.value ∙ c.in_ok-cells.ensures) c.booked_time-time.ensures
