use Rattle.std.proofs.Common.{◌≡◌, ◌<◌, length, take, refl, ◌∙◌, arith, drop-set-lt, length-take-le}
use Rattle.exports.proofs.Lifetimes.{turn_in, over_all}
use Rattle.exports.proofs.lives.live_each.Goals as goal

pub loop-place-preserved : goal.loop-place-preserved
loop-place-preserved g c =
    let n = c.min-n.result in
    let place = c.loop-place.place in
    let made = take n c.args.steps.now in
    let long : length made ≡ n = length-take-le n c.args.steps.now (omega arith) in
    let here : place < n = omega arith in
    record {
      sofar = turn_in c.from.result c.args.orders.now made (record { call = 0; first = 0; second = 0 }) c.loop-place.answers place refl c.loop-place-test.true (omega arith)
          c.loop-place.invariant.sofar c.call_of.ensures c.perform.ensures.turned c.from.ensures;
      same = drop-set-lt n c.loop-place.answers place _ here ∙ c.loop-place.invariant.same;
    }

pub returns : goal.returns
returns g c =
    let n = c.min-n.result in
    let made = take n c.args.steps.now in
    let long : length made ≡ n = length-take-le n c.args.steps.now (omega arith) in
    let end : c.loop-place.place ≡ n = omega arith in
    record {
      answer = c.min-n.ensures;
      acted = over_all c.args.orders.now made c.loop-place.answers n c.loop-place.place refl end long c.loop-place.invariant.sofar;
      same = c.loop-place.invariant.same;
    }
