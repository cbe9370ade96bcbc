use Rattle.std.proofs.Common.{ℕ, Option, sym, ap, ◌∙◌, arith}
use Rattle.std.specs.Option.{unwrap_or}
use Rattle.edit.proofs.Noted.{note_written}
use Rattle.edit.proofs.edit.Edit.put.Goals as goal

pub returns-clause-after : goal.returns-clause-after
returns-clause-after c =
    let e = c.args.self.now in
    note_written e.table e.count c.args.c c.args.v (omega (arith, e.whole, e.few)) e.checked c.unwrap_or-place.result c.max-self.result
    (sym c.if-not-in_range.ensures.answer) e.whole
    (c.unwrap_or-place.ensures ∙ ap (λ (r : Option ℕ). unwrap_or r e.count) c.find.ensures)
    (omega arith) c.max-self.ensures
