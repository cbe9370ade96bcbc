use Rattle.image.proofs.Four.{last_bytes}
use Rattle.image.proofs.Placed.{encode_turn, faithful}
use Rattle.image.proofs.codec.encode.Goals as goal
use Rattle.std.proofs.Common.{ℕ, List, ◌++◌, refl, ap, ◌∙◌, arith}

pub loop-c-preserved : goal.loop-c-preserved
loop-c-preserved c =
    encode_turn c.cells_in-cell-items.result.now _ _ c.loop-c.c c.width.result _ (omega arith)
    c.loop-c.invariant c.width.ensures.answer refl
    (c.in_ok-extend_from_slice.ensures.items ∙ ap (λ (x : List ℕ). c.loop-c.image.items ++ x) (last_bytes c.width.result _ _ c.width.ensures.most c.to_be_bytes.ensures))

pub returns-in_err-extend_from_slice-clause-trip : goal.returns-in_err-extend_from_slice-clause-trip
returns-in_err-extend_from_slice-clause-trip c = faithful _

pub returns-clause-trip : goal.returns-clause-trip
returns-clause-trip c = faithful _
