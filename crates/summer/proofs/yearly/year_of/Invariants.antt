use Rattle.std.proofs.Common.{ℕ, ◌-◌, ◌<◌, ◌≤◌, pos, ◌≤ℤ◌, ◌<ℤ◌}
use Rattle.summer.proofs.yearly.year_of.Given as goal

abbrev pub invariant-loop-low : goal.invariant-loop-low
invariant-loop-low g l = (l.low ≤ l.high) × (l.high ≤ 136) × ((k : ℕ) → k < l.low → pos (g.L.Yearly.until k) ≤ℤ l.t) × (l.t <ℤ pos (g.L.Yearly.until l.high))

abbrev pub decreases-loop-low : goal.decreases-loop-low
decreases-loop-low g l = l.high - l.low
