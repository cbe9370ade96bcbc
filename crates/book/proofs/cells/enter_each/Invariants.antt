use Rattle.std.proofs.Common.{◌≡◌, drop}
use Rattle.history.specs.Book.{kept}
use Rattle.engine.specs.Engines.{state_of}
use Rattle.book.proofs.cells.enter_each.Given as goal

-- what is left to enter gives the whole
abbrev pub invariant-loop-call : goal.invariant-loop-call
invariant-loop-call g l = record {
  book : kept (state_of g.S.Store.cells l.book) (drop l.call-index l.calls) ≡ kept (state_of g.S.Store.cells l.initial.book) l.calls;
  memory : g.S.Store.memory l.book.store ≡ g.S.Store.memory l.initial.book.store;
}
