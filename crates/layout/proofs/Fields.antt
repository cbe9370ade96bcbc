-- What the layout says of each cell: how wide it is, that its values fit, and where rows and events stand.
use Rattle.std.proofs.Common.{◌≡◌, ℕ, ◌^◌, ◌<◌, ◌≤◌, true, refl, arith}
use Rattle.layout.specs.Layout.{allows, EventFields, field_of, in_range, only, Positions, RowFields, row_count, width, width_of}
use Rattle.layout.specs.declared.field.Field.TheVariants.{Zone, Summer, Months, Weekdays, Dates, Plan, Hour, Minute, Tariff}
use Rattle.layout.specs.declared.field.Field.{Field}
use Rattle.std.proofs.lemmas.Nat.{and_le_r}
use Rattle.std.proofs.lemmas.Bool.{eqb-true, leb-true}
use Rattle.std.proofs.lemmas.Bool.Decides.{nat_tests}
use lib.Bits.{bit_and}

only_le : (bits v : ℕ) → only bits v ≡ true → v ≤ bits
only_le bits v h = omega (arith, eqb-true (bit_and v bits) v h, and_le_r v bits)

-- a value of a field fits its bytes
pub field_fits : (f : Field) (v : ℕ) → allows f v ≡ true → v < 256 ^ width_of f
field_fits Zone v h = omega (arith, leb-true v _ h)
field_fits Summer v h = omega (arith, leb-true v _ h)
field_fits Months v h = omega (arith, only_le _ v h)
field_fits Weekdays v h = omega (arith, only_le _ v h)
field_fits Dates v h = omega (arith, only_le _ v h)
field_fits Plan v h = omega (arith, leb-true v _ h)
field_fits Hour v h = omega (arith, leb-true v _ h)
field_fits Minute v h = omega (arith, leb-true v _ h)
field_fits Tariff v h = omega (arith, leb-true v _ h)

pub range_fits : (c v : ℕ) → in_range c v ≡ true → v < 256 ^ width c
range_fits c v h = field_fits (field_of c) v h

field_least : (f : Field) → 1 ≤ width_of f
field_least Zone = omega arith
field_least Summer = omega arith
field_least Months = omega arith
field_least Weekdays = omega arith
field_least Dates = omega arith
field_least Plan = omega arith
field_least Hour = omega arith
field_least Minute = omega arith
field_least Tariff = omega arith

-- each cell has a byte
pub width_least : (c : ℕ) → 1 ≤ width c
width_least c = field_least (field_of c)

field_most : (f : Field) → width_of f ≤ 4
field_most Zone = omega arith
field_most Summer = omega arith
field_most Months = omega arith
field_most Weekdays = omega arith
field_most Dates = omega arith
field_most Plan = omega arith
field_most Hour = omega arith
field_most Minute = omega arith
field_most Tariff = omega arith

-- no cell is wider than a word
pub width_most : (c : ℕ) → width c ≤ 4
width_most c = field_most (field_of c)

row_fields : (r : ℕ) → 1 ≤ r → r ≤ row_count → RowFields r
unfolding field_of
row_fields r l h = record { months = grind (arith, nat_tests); weekdays = grind (arith, nat_tests); dates = grind (arith, nat_tests); plan = grind (arith, nat_tests) }

event_fields : (p e : ℕ) → EventFields p e
unfolding field_of
event_fields p e = record { hour = grind (arith, nat_tests); minute = grind (arith, nat_tests); tariff = grind (arith, nat_tests) }

pub positions : Positions
unfolding field_of
positions = record { zone = refl; summer = refl; rows = row_fields; events = event_fields }
