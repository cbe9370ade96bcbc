use Rattle.std.proofs.Common.{◌≡◌, not, sym, ap, ◌∙◌, refl, rules, tests}
use Rattle.std.proofs.lemmas.Iterator.Search.{find_from_yields_List}
use Rattle.std.specs.Option.{option_map}
use Rattle.checks.specs.Words.{numbers, reading}
use Rattle.checks.specs.Rules.{good, named, cell_places}
use Rattle.checks.specs.Rules.Place.{cell_at}
use Rattle.checks.proofs.Firsts.{fault_among, found_named}
use Rattle.checks.proofs.Numbers.{exclusive}
use Rattle.checks.proofs.rules.bad_cell.Goals as goal
use Rattle.checks.proofs.rules.bad_cell.Goals.{After-find}

found : (c : After-find) → option_map (λ n. named (cell_at n)) c.find.result ≡ fault_among (reading c.args.t.now) cell_places
found c =
    let t = reading c.args.t.now in
    let all = exclusive 0 706 706 refl refl in
    found_named t cell_at (numbers 0 706) c.find.result
    (find_from_yields_List (λ n. not (good t (cell_at n))) _ _ c.find.result c.find.ensures.ran all (λ x b q k. search (rules, tests)))

pub returns-in_err-cell : goal.returns-in_err-cell
returns-in_err-cell c = c.from_residual.ensures ∙ ap (option_map (λ n. named (cell_at n))) (sym c.in_err-cell.was) ∙ found (goal.at.returns-in_err-cell c).After-find

pub returns : goal.returns
returns c = ap (option_map (λ n. named (cell_at n))) (sym c.in_ok-cell.was) ∙ found (goal.at.returns c).After-find
