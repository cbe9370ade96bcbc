use Rattle.std.proofs.Common.{map, refl, sym, ◌∙◌, rules, tests}
use Rattle.checks.specs.Words.{numbers, reading}
use Rattle.checks.specs.Rules.Place.{event_at}
use Rattle.checks.proofs.Firsts.{fault_among, events_by_plan}
use Rattle.checks.proofs.Numbers.{found_from_range}
use Rattle.checks.proofs.rules.bad_event.Goals as goal

pub returns : goal.returns
returns c =
    let t = reading c.args.t.now in
    found_from_range _ _ (λ p. fault_among t (map (event_at p) (numbers 1 12))) (λ x o q k. search (rules, tests)) 1 16 16 c.find_map.result c.find_map.ensures.runs c.new.ensures.start c.new.ensures.end c.new.ensures.exhausted refl
    ∙ sym (events_by_plan t (numbers 1 16))
