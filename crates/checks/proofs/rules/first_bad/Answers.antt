use Rattle.std.proofs.Common.{◌≡◌, ℕ, Bool, Some, not, map, sym, ap, ◌∙◌, of_calls, arith}
use Rattle.std.proofs.lemmas.Iterator.Search.{find_from_yields_List}
use Rattle.std.specs.Fn.{FnReturnsAt}
use Rattle.std.specs.Option.{option_map}
use Rattle.checks.specs.Words.{numbers}
use Rattle.checks.specs.Rules.{Place, good, named}
use Rattle.checks.proofs.Firsts.{fault_among, found_named}
use Rattle.checks.proofs.Numbers.{inclusive}
use Rattle.checks.proofs.rules.first_bad.Goals as goal
use Rattle.checks.proofs.rules.first_bad.Goals.{After-find}

found : (g : _) (c : After-find g) (t : ℕ → ℕ) (at : ℕ → Place) → ((n : ℕ) (b : Bool) → FnReturnsAt g.F.Fn c.args.fails n b → b ≡ not (good t (at n))) → option_map (λ n. named (at n)) c.find.result ≡ fault_among t (map at (numbers 1 c.args.last))
found g c t at fails =
    let all = inclusive 1 c.args.last c.args.last c.new.ensures.start c.new.ensures.end c.new.ensures.exhausted (omega arith) in
    found_named t at (numbers 1 c.args.last) c.find.result
    (find_from_yields_List (λ n. not (good t (at n))) _ _ c.find.result c.find.ensures.ran all (λ x b q k.
    (g.met.F.Fn.1.step_stays _ _ _ _ k.called, fails x b (record { shown = k.shown; shows = k.shows; says = record { met = (search of_calls) } }))))

pub returns-in_err-n : goal.returns-in_err-n
returns-in_err-n g c = λ t at fails names.
    c.from_residual.ensures ∙ ap (option_map (λ n. named (at n))) (sym c.in_err-n.was) ∙ found g (goal.at.returns-in_err-n g c).After-find t at fails

pub returns : goal.returns
returns g c = λ t at fails names.
    ap Some (names c.in_ok-n.n c.cell.result c.cell.ensures) ∙ ap (option_map (λ n. named (at n))) (sym c.in_ok-n.was) ∙ found g (goal.at.returns g c).After-find t at fails
