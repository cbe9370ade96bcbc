use Rattle.std.proofs.Common.{refl, rules, tests}
use Rattle.std.proofs.lemmas.Iterator.Search.{any_from_yields_List}
use Rattle.checks.specs.Words.{reading}
use Rattle.checks.specs.Rules.{counts, plan_counts}
use Rattle.checks.proofs.Numbers.{inclusive}
use Rattle.checks.proofs.rules.plan_counts.Goals as goal

pub returns : goal.returns
unfolding plan_counts
returns c =
    let all = inclusive 1 12 12 c.new.ensures.start c.new.ensures.end c.new.ensures.exhausted refl in
    any_from_yields_List (counts (reading c.args.t.now) c.args.p) _ _ c.any.result c.any.ensures.ran all (λ x b q k. search (rules, tests))
