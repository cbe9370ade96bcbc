use Rattle.std.proofs.Common.{Some, sym, ap, ◌∙◌, arith}
use Rattle.std.proofs.lemmas.List.{length-drop, length-take}
use Rattle.std.proofs.lemmas.Option.{slice_get-get_or}
use Rattle.image.proofs.Placed.{absent, read_at, there}
use Rattle.image.specs.Image.{image_cells}
use Rattle.image.proofs.image.ImageTotalFormat.read.Goals as goal

pub read_number-requires : goal.read_number-requires
read_number-requires c = simp (length-take, length-drop) (omega arith)

pub returns-then-c-ge-CELLS : goal.returns-then-c-ge-CELLS
returns-then-c-ge-CELLS c = sym (absent c.args.bytes.now c.args.c (λ below fits. omega arith))

pub returns-then-end-bytes : goal.returns-then-end-bytes
returns-then-end-bytes c = sym (absent c.args.bytes.now c.args.c (λ below fits. omega arith))

pub returns : goal.returns
returns c =
    let bs = c.args.bytes.now in
    let here = there bs c.args.c (omega arith) (omega arith) in
    ap Some (c.read_number.ensures ∙ read_at bs c.args.c here _ _ c.place-start.ensures.answer (omega arith))
    ∙ sym (slice_get-get_or (image_cells bs) c.args.c 0 here)
