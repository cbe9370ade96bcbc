use Rattle.std.proofs.Common.{◌≡◌, ◌<◌, ◌≤◌, ℕ, ℤ, pos, ◌+ℤ◌, ◌≤ℤ◌, sym, arith}
use borrow.Author.Differences.{ints}
use Rattle.summer.proofs.Spans.{moved, until_near, none_left, start_at, end_at}
use Rattle.summer.proofs.yearly.next_end.Goals as goal

small : (z : ℤ) → z ≤ℤ pos 43200 → (pos 4294967295 +ℤ z) ≤ℤ pos 4295010496
small z h = omega (arith, ints)

in_limit : (n : ℕ) → n < 4294967296 → n ≤ 4294967295
in_limit n h = omega arith

pub returns-then-y-eq136 : goal.returns-then-y-eq136
returns-then-y-eq136 g c =
    let cur = moved (pos c.args.second +ℤ c.args.offset) c.year_of-y.ensures (omega (arith, ints)) in
    sym (none_left g.L.Yearly.from g.L.Yearly.until g.met.L.Yearly.ascending c.args.offset c.args.second c.year_of-y.result cur
    0 4294967295 (omega (arith, ints)) c.if-y-eq136.true (omega arith))

pub second_of-requires : goal.second_of-requires
second_of-requires g c =
    let o = g.met.L.Yearly.ascending.opens c.year_of-y.result in
    let f = c.year_of-y.ensures.few in
    let u = until_near g.L.Yearly.from g.L.Yearly.until g.met.L.Yearly.ascending c.year_of-y.result (omega arith) in
    record { from = omega (arith, ints); to = omega (arith, ints) }

pub returns-then-t-first : goal.returns-then-t-first
returns-then-t-first g c =
    let cur = moved (pos c.args.second +ℤ c.args.offset) c.year_of-y.ensures (omega (arith, ints)) in
    sym (start_at g.L.Yearly.from g.L.Yearly.until g.met.L.Yearly.ascending c.args.offset c.args.second c.year_of-y.result cur
    c.second_of.result 4294967295 (omega (arith, ints)) (omega (arith, ints)) (omega (arith, ints)) (omega arith))

pub second_of-requires-2 : goal.second_of-requires-2
second_of-requires-2 g c =
    let h = c.year_of-y.ensures.here in
    let f = c.year_of-y.ensures.few in
    let u = until_near g.L.Yearly.from g.L.Yearly.until g.met.L.Yearly.ascending c.year_of-y.result (omega arith) in
    record { from = omega (arith, ints); to = omega (arith, ints) }

pub returns : goal.returns
returns g c =
    let t = pos c.args.second +ℤ c.args.offset in
    let y = c.year_of-y.result in
    let warm : pos (g.L.Yearly.from y) ≤ℤ t = omega (arith, ints) in
    let end : pos c.second_of-2.result +ℤ c.args.offset ≡ pos (g.L.Yearly.until y) = omega (arith, ints) in
    let cur = moved t c.year_of-y.ensures (omega (arith, ints)) in
    sym (end_at g.L.Yearly.from g.L.Yearly.until g.met.L.Yearly.ascending c.args.offset c.args.second y cur
    c.second_of-2.result 4294967295 (small c.args.offset c.requires.east) warm end (in_limit c.second_of-2.result c.second_of-2.type_inv))
