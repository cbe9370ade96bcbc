use Rattle.std.proofs.Common.{◌≡◌, take, vec_items}
use Rattle.image.proofs.codec.decode.Given as goal
use Rattle.image.specs.Image.{image_cells}

abbrev pub invariant-loop-c : goal.invariant-loop-c
invariant-loop-c l = vec_items l.cells ≡ take l.c (image_cells l.image)
