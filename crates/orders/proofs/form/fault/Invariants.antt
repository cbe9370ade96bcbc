use Rattle.std.proofs.Common.{◌≡◌, ◌-◌, ◌≤◌, length}
use Rattle.orders.specs.Form.{form, reads_on, fault_of}
use Rattle.orders.proofs.form.fault.Given as goal

-- what is left gives the fault of the whole
abbrev pub invariant-loop-command : goal.invariant-loop-command
invariant-loop-command l = (length l.rest ≤ length l.order) × (fault_of (reads_on (length l.order - length l.rest) l.rest) ≡ fault_of (form l.order))

abbrev pub decreases-loop-command : goal.decreases-loop-command
decreases-loop-command l = length l.rest
