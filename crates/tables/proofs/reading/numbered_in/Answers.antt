use Rattle.std.proofs.Common.{◌≡◌, ◌+◌, ◌-◌, Some, None, ap, ◌∙◌, arith}
use Rattle.tables.specs.Numbered.{numbered}
use Rattle.tables.specs.Filled.{things_in}
use Rattle.tables.proofs.Numbers.{number_taken, number_left}
use Rattle.tables.proofs.reading.numbered_in.Goals as goal
use Rattle.tables.proofs.reading.numbered_in.Goals.{else-loop-number-test, then-loop-number-test+else-number-number-end, in-Some, in_default}

pub loop-number-init : goal.loop-number-init
unfolding numbered
loop-number-init g c = record { things = λ there h. c.new-things.ensures.answer; near = omega arith; count = omega arith }

pub loop-number-preserved : goal.loop-number-preserved
loop-number-preserved g c =
    let k = c.loop-number.number in
    elim c.match-at.branch [
      | in-Some w ↦ record {
        things = λ there h. rw (w.things-is, w.push.ensures.after) (number_taken there (k - 1) k (k + 1 - 1) (omega arith) (omega arith) w.in-Some.thing _ (h k (Some w.in-Some.thing) w.in-Some.ensures) (c.loop-number.invariant.things there h));
        near = omega arith;
        count = omega (arith, ap (λ r. r.count) w.things-is, w.push.ensures.count);
      }
      | in_default w ↦ record {
        things = λ there h. rw w.things-is (number_left there (k - 1) k (k + 1 - 1) (omega arith) (omega arith) _ (h k None w.in_default.ensures) (c.loop-number.invariant.things there h));
        near = omega arith;
        count = omega (arith, ap (λ r. r.count) w.things-is);
      }
    ]

pub returns : goal.returns
returns g c there h =
    let k = c.loop-number.number in
    elim c.loop-number-test.branch [
      | else-loop-number-test w ↦ let e : k - 1 ≡ g.row.N = omega arith in ap things_in w.things-is ∙ (c.loop-number.invariant.things there h ∙ ap (numbered there) e)
      | then-loop-number-test+else-number-number-end w ↦
          elim w.match-at.branch [
            | in-Some v ↦ rw (w.things-is, v.things-is, v.push.ensures.after) (number_taken there (k - 1) k g.row.N (omega arith) (omega arith) v.in-Some.thing _ (h k (Some v.in-Some.thing) v.in-Some.ensures) (c.loop-number.invariant.things there h))
            | in_default v ↦ rw (w.things-is, v.things-is) (number_left there (k - 1) k g.row.N (omega arith) (omega arith) _ (h k None v.in_default.ensures) (c.loop-number.invariant.things there h))
          ]
    ]
