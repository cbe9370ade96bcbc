use Rattle.std.proofs.Common.{◌≡◌, drop}
use Rattle.history.specs.Book.{moved, moves}
use Rattle.book.proofs.time.clock_after.Given as goal

-- what is left to do gives the whole
abbrev pub invariant-loop-call : goal.invariant-loop-call
invariant-loop-call g l =
    moved g.C.SettableClock.kind (g.C.Clock.meaning l.after) (moves (drop l.call-index l.calls))
    ≡ moved g.C.SettableClock.kind (g.C.Clock.meaning l.initial.after) (moves l.calls)
