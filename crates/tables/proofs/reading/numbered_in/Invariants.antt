use Rattle.std.proofs.Common.{◌≡◌, ℕ, ◌+◌, ◌-◌, ◌≤◌, Option}
use Rattle.tables.specs.Filled.{things_in}
use Rattle.tables.specs.Numbered.{numbered}
use Rattle.tables.proofs.reading.numbered_in.Given as goal

abbrev pub invariant-loop-number : goal.invariant-loop-number
invariant-loop-number g l = record {
  things : (there : ℕ → Option _) → ((k : ℕ) (thing : Option _) → goal.F-post g l.at k thing → thing ≡ there k) → things_in l.things ≡ numbered there (l.number - 1);
  near : l.number ≤ g.row.N + 1;
  count : l.things.count ≤ (l.number - 1);
}
