use Rattle.std.proofs.Common.{[], ◌+◌, ◌-◌, ◌∙◌, rules}
use Rattle.schedule.specs.Candidates.{candidates, today, up_to}
use Rattle.schedule.proofs.Soon.{begin, end, soonest_is}
use Rattle.schedule.proofs.boundary.next_boundary.Goals as goal

pub loop-event-init : goal.loop-event-init
loop-event-init c =
    begin c.args.t c.args.time c.saturating_sub.result c.checked_add.result _ c.saturating_sub.ensures (search rules) (c.offer_second.ensures [] c.new-soonest.ensures.answer)

pub returns : goal.returns
unfolding today
returns c =
    let all = end (up_to (c.args.t + (86400 - c.args.time))) c.args.t c.args.time c.loop-event.event-index c.args.events.now _ c.loop-event-test.false c.loop-event.invariant in
    c.best_place.ensures.answer ∙ soonest_is (candidates c.args.t c.args.time c.args.events.now c.args.change) _ (c.offer_second-2.ensures (today c.args.t c.args.time c.args.events.now) all)
