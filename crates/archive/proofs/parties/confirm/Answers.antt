use Rattle.std.proofs.Common.{take, ap, ◌∙◌, subst}
use Rattle.history.specs.History.{Meaning, Lived, meaning}
use Rattle.archive.specs.Law.{defined}
use Rattle.archive.proofs.Agree.{confirmed}
use Rattle.archive.proofs.parties.confirm.Goals as goal

pub returns : goal.returns
returns g c =
    let kind = g.C.SettableClock.kind in
    let mean = meaning g.C.Clock.meaning g.S.Store.cells g.S.Store.memory g.R.SummerRule.in_force in
    let did = c.live-count.ensures in
    let n = c.live-count.result in
    record {
      answer = did.answer;
      law = confirmed (g.met.C.Clock.sound _) (g.met.D.Clock.sound _)
          (subst (λ (s : Meaning). Lived kind s (take n c.args.calls.now) (mean c.live-count.new.engine) (take n c.live-count.new.answers)) c.engine-meter.ensures did.lived)
          c.look-shown.ensures
          (c.look-read.ensures ∙ ap defined c.engine-reader.ensures);
      reader = c.engine-reader.ensures;
      same = did.same;
    }
