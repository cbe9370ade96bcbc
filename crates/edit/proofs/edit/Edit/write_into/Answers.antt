use Rattle.std.proofs.Common.{◌≡◌, take, arith, length-take}
use Rattle.std.proofs.lemmas.List.{get_or-take}
use Rattle.store.specs.Entries.{puts_cells}
use Rattle.edit.specs.Drafts.{entry, overwritten}
use Rattle.edit.proofs.Tabled.{puts_fit}
use Rattle.edit.proofs.edit.Edit.write_into.Goals as goal

pub returns-clause-after : goal.returns-clause-after
returns-clause-after g c =
    let m = g.S.Store in
    let e = c.args.self.now in
    let cs = m.cells c.args.store.now in
    let w = (m.memory c.args.store.now).width in
    let es = take e.count e.table in
    let fit : puts_cells cs w es ≡ overwritten cs es =
    puts_fit w (m.laws.wide c.args.store.now) cs es (λ k h. rw (get_or-take e.count e.table k (entry 0 0) (omega (arith, length-take e.count e.table))) (e.fits k (omega (arith, length-take e.count e.table))))
    in cc
