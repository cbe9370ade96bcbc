use Rattle.std.proofs.Common.{◌≡◌, ℕ, ◌<◌, length, take, map, sym, ap, ◌∙◌, arith, drop-set-lt, length-take-le, rules}
use Rattle.std.proofs.lemmas.List.{take_all}
use Rattle.exports.proofs.Each.{one_more}
use Rattle.exports.proofs.looks.seen_each.Goals as goal

pub loop-place-preserved : goal.loop-place-preserved
loop-place-preserved c =
    let n = c.min-n.result in
    let asked = take n c.args.seconds.now in
    let long : length asked ≡ n = length-take-le n c.args.seconds.now (omega arith) in
    let here : c.loop-place.place < n = omega arith in
    record {
      sofar = one_more _ asked c.loop-place.looks c.loop-place.place _ c.seen.result c.loop-place-test.true (omega arith) (search rules) c.seen.ensures c.loop-place.invariant.sofar;
      same = drop-set-lt n c.loop-place.looks c.loop-place.place _ here ∙ c.loop-place.invariant.same;
    }

pub returns : goal.returns
returns c =
    let n = c.min-n.result in
    let asked = take n c.args.seconds.now in
    let long : length asked ≡ n = length-take-le n c.args.seconds.now (omega arith) in
    let end : c.loop-place.place ≡ n = omega arith in
    record {
      answer = c.min-n.ensures;
      after = ap (λ (i : ℕ). take i c.loop-place.looks) (sym end) ∙ c.loop-place.invariant.sofar ∙ ap (map _) (take_all c.loop-place.place asked (omega arith));
      same = c.loop-place.invariant.same;
    }
