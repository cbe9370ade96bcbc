use Rattle.std.proofs.Common.{◌≡◌, ℕ, ◌+◌, ◌-◌, length, sym, ap, ◌∙◌, arith}
use Rattle.orders.specs.Form.{reads_on, fault_of, size_of}
use Rattle.orders.proofs.Back.{fault_only}
use Rattle.orders.proofs.Reading.{reads_end, misplaced, closing, passed, rest_length, shorter_rest, fault_with_first}
use Rattle.orders.proofs.form.fault.Goals as goal

pub returns-then-not-stands-clause-answer : goal.returns-then-not-stands-clause-answer
returns-then-not-stands-clause-answer c =
    let e = c.in-Some.ensures in
    let p = length c.args.order.now - length c.loop-command.rest.now in
    sym (ap fault_of (misplaced p c.loop-command.rest.now c.in-Some.next.now c.in-Some.command e.0 e.1 (sym c.if-not-stands.ensures))) ∙ c.loop-command.invariant.1

pub returns-then-not-stands-clause-only : goal.returns-then-not-stands-clause-only
returns-then-not-stands-clause-only c = fault_only

pub returns-then-closes-clause-answer : goal.returns-then-closes-clause-answer
returns-then-closes-clause-answer c =
    let e = c.in-Some.ensures in
    let p = length c.args.order.now - length c.loop-command.rest.now in
    sym (ap fault_of (closing p c.loop-command.rest.now c.in-Some.next.now c.in-Some.command e.0 e.1 (sym c.if-not-stands.ensures) (sym c.if-closes.ensures))) ∙ c.loop-command.invariant.1

pub returns-then-closes-clause-only : goal.returns-then-closes-clause-only
returns-then-closes-clause-only c = fault_only

pub loop-command-preserved : goal.loop-command-preserved
loop-command-preserved c =
    let e = c.in-Some.ensures in
    let cmd = c.in-Some.command in
    let r = c.loop-command.rest.now in
    let n = c.in-Some.next.now in
    let p = length c.args.order.now - length r in
    let l = rest_length p r n cmd e.0 e.1 in
    let i = c.loop-command.invariant in
    let q : length c.args.order.now - length n ≡ p + size_of cmd = omega (arith, l, i.0) in (
      omega (arith, l, i.0),
      ap (λ (k : ℕ). fault_of (reads_on k n)) q
          ∙ sym (ap fault_of (passed p r n cmd e.0 e.1 (sym c.if-not-stands.ensures) (sym c.if-closes.ensures)) ∙ fault_with_first (record { place = p; command = cmd }) (reads_on (p + size_of cmd) n))
          ∙ i.1,
    )

pub loop-command-smaller : goal.loop-command-smaller
loop-command-smaller c =
    let e = c.in-Some.ensures in
    shorter_rest 0 c.loop-command.rest.now c.in-Some.next.now c.in-Some.command e.0 e.1

pub returns-clause-answer : goal.returns-clause-answer
returns-clause-answer c =
    let r = c.loop-command.rest.now in
    sym (ap fault_of (reads_end (length c.args.order.now - length r) r c.in_default.ensures)) ∙ c.loop-command.invariant.1

pub returns-clause-only : goal.returns-clause-only
returns-clause-only c = fault_only
