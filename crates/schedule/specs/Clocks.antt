-- The setting that a local clock goes by, and the times that it tells. Assumes nothing.
use Rattle.std.specs.Prelude.{ℤ, pos, negsuc, ◌≤ℤ◌, ◌<ℤ◌}
use Rattle.tables.specs.Filled.{timetable_in}
use Rattle.schedule.specs.Boundaries.{Setting}
use Rattle.schedule.specs.Looks.{Rule, setting_of}
use Rattle.schedule.specs.declared.local_clock.LocalClock.{LocalClock}

-- from the first second at the westmost offset to the last at the eastmost, in summer
pub record IsLocalTime (local : ℤ) : Type 0 where
  pub from : negsuc 43199 ≤ℤ local
  pub to : local ≤ℤ pos 4295014095

-- the day of such a time: from the last of 1969 on
pub record IsLocalDay (day : ℤ) : Type 0 where
  pub from : negsuc 0 ≤ℤ day
  pub to : day <ℤ pos 49712

-- that of its tables, under its rule
abbrev pub setting_by : {R : Type 0} → (R → Rule) → LocalClock R → Setting
setting_by in_force clock = setting_of (timetable_in clock.tables.now) (in_force clock.rule.now)
