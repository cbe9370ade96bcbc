use Rattle.std.proofs.Common.{Err, sym, ap, ◌∙◌}
use Rattle.std.proofs.lemmas.Result.{err_from_is_err_and}
use Rattle.orders.proofs.Reading.{sound_some}
use Rattle.engine.specs.Engines.{opened, state_of}
use Rattle.runner.proofs.Commands.{then_same, cells_too, edit_then_cells, tail_shorter, tail_sound, opened_gives, placed_err, placed_ok, unopened_state, unopened_answer}
use Rattle.runner.proofs.running.run.Goals as goal

pub unreachable-requires : goal.unreachable-requires
unreachable-requires g c = sound_some 0 c.args.order.now (sym c.in_default.ensures.answer) c.in_default-next_command.ensures

pub perform-ending-requires : goal.perform-ending-requires
perform-ending-requires g c =
    let e = c.in-Some-next_command.ensures in
    let order = c.args.order.now in
    let tail = c.in-Some-next_command.tail.now in
    let k = c.in-Some-next_command.field-0-0 in
    let sound = sym c.in_default.ensures.answer in (
      tail_shorter order tail k e.0 e.1 sound,
      tail_sound order tail k e.0 e.1 sound,
    )

pub returns-in_err-t : goal.returns-in_err-t
returns-in_err-t g c =
    let e = c.in-Some-next_command.ensures in
    let order = c.args.order.now in
    let tail = c.in-Some-next_command.tail.now in
    let k = c.in-Some-next_command.field-0-0 in
    let sound = sym c.in_default.ensures.answer in
    let s = state_of g.S.Store.cells c.args.engine.now in
    let p = c.open.ensures in
    let x = c.in_err-t.field-0.0 in
    let h = placed_err 0 c.open.result x (sym c.placed.ensures ∙ c.in_err-t.was) in
    let a = ap opened (sym h.0) ∙ p.answer in
    let q = err_from_is_err_and c.from_residual.result c.from_residual.ensures.1 in
    record {
      answer = rw (q.1, q.2) (ap Err (sym h.1) ∙ unopened_answer order tail k e.0 e.1 sound s x.why a);
      after = unopened_state order tail k e.0 e.1 sound s (state_of g.S.Store.cells c.open.new.self) x.why a p.after;
      same = cells_too g.S.Store.memory p.same;
    }

pub returns : goal.returns
returns g c =
    let e = c.in-Some-next_command.ensures in
    let order = c.args.order.now in
    let tail = c.in-Some-next_command.tail.now in
    let k = c.in-Some-next_command.field-0-0 in
    let sound = sym c.in_default.ensures.answer in
    let s = state_of g.S.Store.cells c.args.engine.now in
    let u = state_of g.S.Store.cells c.open.new.self in
    let p = c.open.ensures in
    let a = ap opened (sym (placed_ok 0 c.open.result c.in_ok-t.t (sym c.placed.ensures ∙ c.in_ok-t.was))) ∙ p.answer in
    let q = c.perform-ending.ensures in
    let gives = opened_gives order tail k e.0 e.1 sound s u a p.after in
    let kept = then_same p.same q.same in
    record {
      answer = c.finish.ensures.answer ∙ q.ended.said ∙ gives.said;
      after = c.finish.ensures.after ∙ q.ended.state ∙ gives.state;
      same = edit_then_cells g.S.Store.memory kept c.finish.ensures.same;
    }
