-- An offset beyond twelve hours counts as 0, by whatever law.
use Rattle.std.specs.Prelude.{◌≡◌, ℕ, ℤ, refl}
use Rattle.std.proofs.Common.{rules}
use Rattle.summer.specs.Zone.{zone}
use Rattle.exports.specs.declared.law.Law.{Law}
use Rattle.exports.specs.declared.law.Law.TheVariants as law
use Rattle.exports.specs.Crossing.{in_force_by}

pub zoned_by : (l : Law) (o : ℤ) (s : ℕ) → in_force_by l o s ≡ in_force_by l (zone o) s
zoned_by law.Europe o s = search rules
zoned_by law.America o s = search rules
zoned_by law.NoSummer o s = refl
