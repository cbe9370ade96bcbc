use Rattle.std.proofs.Common.{◌≡◌, ℕ, ◌+◌, ◌-◌, sym, ap, ◌∙◌, arith}
use borrow.Rule.Slice.PartMut.{put_mid}
use Rattle.image.proofs.Four.{last_bytes}
use Rattle.image.proofs.Placed.{keeps_at, write_at}
use Rattle.image.proofs.image.write_cell.Goals as goal
use Rattle.image.specs.Image.{bytes_of, image_cells, image_rest}

pub returns : goal.returns
returns c =
    let bs = c.args.bytes.now in
    let at = c.place-at.result in
    let n = c.width-n.result in
    let k : ℕ = at + n - at in
    let same : k ≡ n = omega arith in
    let new : c.copy_from_slice.new.self ≡ bytes_of k c.args.v =
    c.copy_from_slice.ensures.after ∙ last_bytes n c.args.v _ c.width-n.ensures.most c.to_be_bytes.ensures ∙ ap (λ (m : ℕ). bytes_of m c.args.v) (sym same) in
    let after = ap (put_mid at k bs) new in
    let a = c.place-at.ensures.answer in
    let w = same ∙ c.width-n.ensures.answer in
    record {
      after = ap image_cells after ∙ write_at bs c.args.c c.requires.there at k a w c.args.v c.requires.fits;
      rest = ap image_rest after ∙ keeps_at bs c.args.c c.requires.there at k a w c.args.v c.requires.fits;
    }
