use Rattle.std.proofs.Common.{ℕ, get_or, rules, tests, arith}
use Rattle.layout.proofs.Ranges.{made_at}
use Rattle.edit.proofs.Tabled.{same_reading}
use Rattle.edit.proofs.tables.copied.Goals as goal

pub returns : goal.returns
returns g c =
    let cs = g.S.Store.cells c.args.store.now in
    same_reading c.from_fn.result cs 706 (omega (arith, c.from_fn.ensures.items.long)) (omega (arith, g.S.Store.laws.few c.args.store.now))
    (λ k h. made_at _ _ (λ (y : ℕ). y) (λ (i : ℕ). get_or cs i 0) (λ x y q r. search (rules, tests)) c.from_fn.result 0 706 c.from_fn.ensures.items.each k 0 (omega arith) (omega arith))
