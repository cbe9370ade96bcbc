use Rattle.std.proofs.Common.{rules}
use Rattle.layout.specs.Layout.{plan_count}
use Rattle.checks.specs.Words.{numbers, reading}
use Rattle.checks.specs.Rules.{good, places, row_places, plan_places, event_places}
use Rattle.checks.proofs.Firsts.{fault_among, first_means, or_found, rule_by_rule}
use Rattle.checks.proofs.rules.first_fault.Goals as goal

pub returns-clause-answer : goal.returns-clause-answer
returns-clause-answer c =
    let t = reading c.args.t.now in
    let a = c.bad_cell.result in
    let b = c.or_else.result in
    let d = c.or_else-2.result in
    let e = c.or_else-3.result in
    rule_by_rule t a b d e c.bad_cell.ensures
    (or_found t a b (fault_among t row_places) _ c.or_else.ensures (λ p. search rules))
    (or_found t b d (fault_among t plan_places) _ c.or_else-2.ensures (λ p. search rules))
    (or_found t d e (fault_among t (event_places (numbers 1 plan_count))) _ c.or_else-3.ensures (λ p. search rules))

pub returns-clause-first : goal.returns-clause-first
returns-clause-first c = first_means (good (reading c.args.t.now)) places
