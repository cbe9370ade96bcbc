use Rattle.std.proofs.Common.{◌≡◌, ◌<◌, length, take, ◌∙◌, arith, drop-set-lt, length-take-le}
use Rattle.history.proofs.Turns.{turn_in, over_all}
use Rattle.history.proofs.living.live.Goals as goal

pub loop-place-preserved : goal.loop-place-preserved
loop-place-preserved g c =
    let n = c.min-n.result in
    let place = c.loop-place.place in
    let long : length (take n c.args.calls.now) ≡ n = length-take-le n c.args.calls.now (omega arith) in
    let made : place < n = omega arith in
    record {
      sofar = turn_in c.loop-place.answers place c.loop-place-test.true (omega arith) c.loop-place.invariant.sofar c.perform.ensures.turned;
      same = drop-set-lt n c.loop-place.answers place _ made ∙ c.loop-place.invariant.same;
    }

pub returns : goal.returns
returns g c =
    let n = c.min-n.result in
    let long : length (take n c.args.calls.now) ≡ n = length-take-le n c.args.calls.now (omega arith) in
    let end : c.loop-place.place ≡ n = omega arith in
    record {
      answer = c.min-n.ensures;
      lived = over_all c.loop-place.answers n c.loop-place.place end long c.loop-place.invariant.sofar;
      same = c.loop-place.invariant.same;
    }
