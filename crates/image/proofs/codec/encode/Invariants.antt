use Rattle.std.proofs.Common.{◌≡◌, take, vec_items}
use Rattle.image.proofs.codec.encode.Given as goal
use Rattle.image.specs.Image.{image_of}

abbrev pub invariant-loop-c : goal.invariant-loop-c
invariant-loop-c l = vec_items l.image ≡ image_of (take l.c l.cell-items)
