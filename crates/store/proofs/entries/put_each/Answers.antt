use Rattle.std.proofs.Common.{sym, ap, ◌∙◌, arith}
use Rattle.std.proofs.lemmas.List.{drop_all}
use Rattle.store.proofs.Puts.{puts_in_range}
use Rattle.store.proofs.entries.put_each.Goals as goal
use Rattle.store.specs.Entries.{puts_cells}

pub returns-clause-range : goal.returns-clause-range
returns-clause-range g c =
    let w = (g.S.Store.memory c.args.store.now).width in
    let cs = g.S.Store.cells c.loop-entry.store in
    let es = c.args.entries.now in
    let all = drop_all c.loop-entry.entry-index es (omega arith) in
    λ h. sym (ap (puts_cells cs w) all) ∙ c.loop-entry.invariant.cells ∙ puts_in_range w (g.S.Store.laws.range c.args.store.now) _ es h
