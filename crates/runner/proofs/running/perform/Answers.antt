use Rattle.std.proofs.Common.{◌≡◌, ◌-◌, ◌≤◌, true, length, rules, sym, refl, ◌∙◌, arith}
use Rattle.std.proofs.lemmas.Result.{err_from_is_err_and}
use Rattle.orders.specs.declared.command.Command.TheVariants.{Open, Commit, Discard}
use Rattle.orders.proofs.Reading.{sound_some}
use Rattle.engine.specs.Engines.{state_of}
use Rattle.runner.proofs.Commands.{then_same, within_stays, within_undone, committed, discarded, closed_answer, accepted, refused, close, never_open, next_sound, next_shorter}
use Rattle.runner.specs.Run.{stays_within}
use Rattle.runner.proofs.running.perform.Goals as goal

pub unreachable-requires : goal.unreachable-requires
unreachable-requires g c = sound_some (c.args.len - length c.loop-command.left.now) c.loop-command.left.now c.loop-command.invariant.1 c.in_default.ensures

pub unreachable-requires-in-Open : goal.unreachable-requires-in-Open
unreachable-requires-in-Open g c =
    let e = c.in-Some.ensures in
    let i = c.loop-command.invariant in
    never_open c.args.len c.loop-command.left.now c.in-Some.next.now c.in-Some.command Open e.0 e.1 c.in-Open.is (omega (arith, i.0)) i.1 refl i.0

pub loop-command-preserved : goal.loop-command-preserved
loop-command-preserved g c =
    let e = c.in-Some.ensures in
    let i = c.loop-command.invariant in
    let left = c.loop-command.left.now in
    let next = c.in-Some.next.now in
    let within : length left ≤ c.args.len = omega (arith, i.0) in
    let now = c.in-Some.command in
    let inner : stays_within now ≡ true = search rules in
    let stays = within_stays now inner in
    let p = c.enter.ensures in (
      omega (arith, i.0, next_shorter c.args.len left next now now e.0 e.1 refl within i.1),
      next_sound c.args.len left next now now e.0 e.1 refl within i.1 stays,
      accepted c.args.len left next now now e.0 e.1 refl within i.1 (state_of g.S.Store.cells c.loop-command.engine) i.2
          (state_of g.S.Store.cells c.enter.new.engine) c.enter.result stays p.answer p.after c.in_ok-placed-in_default-command.field-0 (sym c.placed.ensures ∙ c.in_ok-placed-in_default-command.was),
      then_same {c = c.enter.new.engine} i.3 p.same,
    )

pub returns-in_err-placed-in_default-command : goal.returns-in_err-placed-in_default-command
returns-in_err-placed-in_default-command g c =
    let e = c.in-Some.ensures in
    let i = c.loop-command.invariant in
    let left = c.loop-command.left.now in
    let next = c.in-Some.next.now in
    let within : length left ≤ c.args.len = omega (arith, i.0) in
    let now = c.in-Some.command in
    let inner : stays_within now ≡ true = search rules in
    let p = c.enter.ensures in
    let q = err_from_is_err_and c.from_residual.result c.from_residual.ensures.1 in
    record {
      ended = refused c.args.len left next now now e.0 e.1 refl within i.1 (state_of g.S.Store.cells c.loop-command.engine) i.2
          (state_of g.S.Store.cells c.enter.new.engine) c.enter.result (within_stays now inner) p.answer p.after c.in_err-placed-in_default-command.field-0.0 c.from_residual.result (sym c.placed.ensures ∙ c.in_err-placed-in_default-command.was) (rw (q.1, q.2)) (within_undone now _ inner);
      same = then_same {c = c.enter.new.engine} i.3 p.same;
    }

pub returns-in-Commit : goal.returns-in-Commit
returns-in-Commit g c =
    let e = c.in-Some.ensures in
    let i = c.loop-command.invariant in
    record {
      ended =
          let all = close c.args.len c.loop-command.left.now c.in-Some.next.now c.in-Some.command Commit e.0 e.1 c.in-Commit.is (omega (arith, i.0)) i.1 (state_of g.S.Store.cells c.loop-command.engine) i.2 refl in
          record { state = committed (state_of g.S.Store.cells c.loop-command.engine) (c.args.len - length c.loop-command.left.now) all; said = closed_answer (state_of g.S.Store.cells c.loop-command.engine) (c.args.len - length c.loop-command.left.now) Commit all };
      same = i.3;
    }

pub returns-in-Discard : goal.returns-in-Discard
returns-in-Discard g c =
    let e = c.in-Some.ensures in
    let i = c.loop-command.invariant in
    record {
      ended =
          let all = close c.args.len c.loop-command.left.now c.in-Some.next.now c.in-Some.command Discard e.0 e.1 c.in-Discard.is (omega (arith, i.0)) i.1 (state_of g.S.Store.cells c.loop-command.engine) i.2 refl in
          record { state = discarded (state_of g.S.Store.cells c.loop-command.engine) (c.args.len - length c.loop-command.left.now) all; said = closed_answer (state_of g.S.Store.cells c.loop-command.engine) (c.args.len - length c.loop-command.left.now) Discard all };
      same = i.3;
    }
