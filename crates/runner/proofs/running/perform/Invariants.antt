use Rattle.std.proofs.Common.{◌≡◌, ◌-◌, ◌<◌, length, None}
use Rattle.orders.specs.Form.{fault_of, reads_on}
use Rattle.runner.proofs.Commands.{Gives}
use Rattle.engine.specs.Engines.{OnlyEdit, state_of}
use Rattle.runner.proofs.running.perform.Given as goal

-- what is left gives the whole
abbrev pub invariant-loop-command : goal.invariant-loop-command
invariant-loop-command g l =
    (length l.left < l.len)
    × (fault_of (reads_on (l.len - length l.left) l.left) ≡ None)
    × Gives (state_of g.S.Store.cells l.initial.engine) (reads_on (l.len - length l.tail) l.tail) (state_of g.S.Store.cells l.engine) (reads_on (l.len - length l.left) l.left)
    × OnlyEdit l.initial.engine l.engine

abbrev pub decreases-loop-command : goal.decreases-loop-command
decreases-loop-command g l = length l.left
