-- Why stores keep the laws of a store.
use Rattle.std.specs.Prelude.{◌≡◌, ℕ, ◌^◌, ◌<◌, ◌≤◌, true, List}
use Rattle.layout.proofs.Fields.{range_fits, width_most}
use Rattle.layout.specs.Layout.{cell_count, in_range, width}
use Rattle.std.proofs.lemmas.List.{length-take}
use Rattle.store.specs.Cells.{StoreLaws}
use Rattle.store.specs.Formats.{FormatLaws}
use Rattle.store.specs.Words.{word_cells, word_width}
use Rattle.std.proofs.Math.Nat.{pow-le-pow_right}
use Rattle.std.proofs.Common.{arith}

-- a wider cell holds more
pub wider : (u w : ℕ) → u ≤ w → 256 ^ u ≤ 256 ^ w
wider u w h = let z : 0 < 256 = omega arith in pow-le-pow_right {n = 256} z h

-- a value in range fits whatever is as wide as the layout says
pub range_held : (c v w : ℕ) → width c ≤ w → in_range c v ≡ true → v < 256 ^ w
range_held c v w h r = let l = range_fits c v r in let p = wider (width c) w h in omega arith

-- what a format keeps, the store in a memory of that format keeps
pub lent_laws : {S U : Type 0} {cells : List U → List ℕ} {width : ℕ → ℕ} → FormatLaws cells width → (memory : S → List U) (rest home : S → List ℕ)
    → StoreLaws (λ s. cells (memory s)) (λ s. record { width = width; rest = rest s; home = home s })
lent_laws laws memory rest home = record {
  few = λ s. laws.few (memory s);
  wide = λ s. laws.wide;
  range = λ s c v. range_held c v _ (laws.wide c);
}

pub word_laws : FormatLaws word_cells word_width
unfolding word_cells
word_laws = record {
  few = λ ws. omega (arith, length-take cell_count ws);
  wide = width_most;
}
