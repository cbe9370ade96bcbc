use Rattle.std.specs.Result.{result_and}
use Rattle.store.proofs.entries.put_each.Given as goal
use Rattle.store.specs.Entries.{puts_answer, puts_cells}
use Rattle.std.proofs.Common.{◌≡◌, drop}

-- what is left to put gives the whole
abbrev pub invariant-loop-entry : goal.invariant-loop-entry
invariant-loop-entry g l =
    let held = g.S.Store.cells in
    let w = (g.S.Store.memory l.initial.store).width in
    record {
      memory : g.S.Store.memory l.store ≡ g.S.Store.memory l.initial.store;
      cells : puts_cells (held l.store) w (drop l.entry-index l.entries) ≡ puts_cells (held l.initial.store) w l.entries;
      answer : result_and l.outcome (puts_answer (held l.store) w (drop l.entry-index l.entries)) ≡ puts_answer (held l.initial.store) w l.entries;
    }
