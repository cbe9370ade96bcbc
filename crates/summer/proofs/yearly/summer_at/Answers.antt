use Rattle.std.proofs.Common.{◌≡◌, sym, ap, ◌∙◌, arith}
use borrow.Author.Differences.{ints}
use Rattle.std.proofs.lemmas.Bool.{le-ltb}
use Rattle.summer.proofs.Spans.{moved, answers, off}
use Rattle.summer.proofs.yearly.summer_at.Goals as goal

pub returns-then-y-lt136 : goal.returns-then-y-lt136
returns-then-y-lt136 g c =
    answers g.L.Yearly.from g.L.Yearly.until g.met.L.Yearly.ascending _ _ _ c.year_of-y.result c.year_of-y.ensures (omega (arith, ints)) (omega (arith, ints))

pub returns-else-y-lt136 : goal.returns-else-y-lt136
returns-else-y-lt136 g c =
    let a = g.met.L.Yearly.ascending in
    let p = a.past in
    let f = c.year_of-y.ensures.few in
    let y : c.year_of-y.result ≡ 136 = omega arith in
    let e : g.L.Yearly.from c.year_of-y.result ≡ g.L.Yearly.from 136 = ap g.L.Yearly.from y in
    le-ltb c.year_of-y.result 136 c.if-y-lt136.false
    ∙ sym (off g.L.Yearly.from g.L.Yearly.until a c.args.t c.year_of-y.result (moved c.args.t c.year_of-y.ensures (omega (arith, ints))) (omega (arith, ints)))
