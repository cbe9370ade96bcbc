use Rattle.std.proofs.Common.{◌<◌, ◌∷◌, [], ◌++◌, length, sym, ap, ap₂, ◌∙◌, arith}
use Rattle.std.proofs.lemmas.List.{take_more}
use Rattle.std.proofs.lemmas.Option.{unwrap_or-slice_get}
use Rattle.std.specs.Option.{unwrap_or}
use Rattle.image.proofs.Placed.{whole}
use Rattle.image.specs.Image.{image_cells}
use Rattle.image.proofs.codec.decode.Goals as goal

pub loop-c-preserved : goal.loop-c-preserved
loop-c-preserved c =
    let cs = image_cells c.args.image.now in
    let below : c.loop-c.c < length cs = omega arith in
    let cell = c.unwrap_or.ensures ∙ ap (λ o. unwrap_or o 0) c.read.ensures ∙ unwrap_or-slice_get cs c.loop-c.c 0 in
    c.in_ok-push.ensures.items ∙ ap₂ (λ xs x. xs ++ (x ∷ [])) c.loop-c.invariant cell ∙ sym (take_more cs c.loop-c.c 0 below)

pub returns-in_err-push-clause-trip : goal.returns-in_err-push-clause-trip
returns-in_err-push-clause-trip c = whole c.args.image.now (λ k. (c.type_inv.image k).fits)

pub returns-clause-trip : goal.returns-clause-trip
returns-clause-trip c = whole c.args.image.now (λ k. (c.type_inv.image k).fits)
