use Rattle.std.proofs.Common.{◌≡◌, ℕ, ◌≤◌, List, length, get_or, take, set, sym, ap, ◌∙◌, arith, length-set, rules}
use Rattle.std.proofs.lemmas.List.Sums.{fold_more}
use Rattle.store.specs.declared.entry.Entry.{Entry}
use Rattle.edit.specs.Drafts.{entry, overwritten}
use Rattle.edit.proofs.Tabled.{overwritten_length, set_reading, skip_reading}
use Rattle.edit.proofs.edit.Edit.fault_in.Goals as goal
use Rattle.edit.proofs.edit.Edit.fault_in.Goals.{then-e-size, else-e-size}

pub loop-e-init : goal.loop-e-init
loop-e-init g c = record { long = search rules; same = λ k. ap (λ (f : ℕ → ℕ). f k) c.copied-t.ensures }

pub loop-e-preserved : goal.loop-e-preserved
loop-e-preserved g c =
    let t = c.loop-e.t in
    let i = c.loop-e.e-index in
    let es = c.entries-e-items.result.now in
    let e : Entry = get_or es i (entry 0 0) in
    let cs = g.S.Store.cells c.args.store.now in
    let xs = overwritten cs (take i es) in
    let step = fold_more (λ (ys : List ℕ) (x : Entry). set ys x.cell x.value) cs es i (entry 0 0) c.loop-e-test.true in
    let size : length xs ≡ c.size-size.result = overwritten_length cs (take i es) ∙ sym c.size-size.ensures.answer in
    let few : length cs ≤ 706 = g.S.Store.laws.few c.args.store.now in
    elim c.if-e-size.branch [
      | then-e-size w ↦ record {
        long = ap length w.t-is ∙ length-set t e.cell e.value ∙ c.loop-e.invariant.long;
        same = λ k. ap (λ (ys : List ℕ). get_or ys k 0) w.t-is ∙ set_reading t xs e.cell e.value (omega (arith, w.if-e-size.true)) (omega (arith, w.if-e-size.true)) c.loop-e.invariant.same k ∙ sym (ap (λ (ys : List ℕ). get_or ys k 0) step);
      }
      | else-e-size w ↦ record {
        long = ap length w.t-is ∙ c.loop-e.invariant.long;
        same = λ k. ap (λ (ys : List ℕ). get_or ys k 0) w.t-is ∙ skip_reading t xs e.cell e.value (omega (arith, w.if-e-size.false)) c.loop-e.invariant.same k ∙ sym (ap (λ (ys : List ℕ). get_or ys k 0) step);
      }
    ]
