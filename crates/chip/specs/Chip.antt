-- What the calendar chip means. Assumes nothing.
use Rattle.std.specs.Prelude.{◌≡◌, ℕ, true, false, Some, None, Ok, Err, Option, Result}
use Rattle.refusal.specs.declared.refusal.Refusal.{Refusal}
use Rattle.refusal.specs.declared.refusal.Refusal.TheVariants.{TimeNotTaken}
use Rattle.clock.specs.Setting.{Kind, accepts, kind_to}
use Rattle.clock.specs.Time.{Meaning, until}
use Rattle.chip.specs.declared.moment.Moment.{Moment}
use Rattle.chip.specs.Moment.{chip_first, chip_last, seconds_to}

-- the second at a moment
abbrev pub second_at : Moment → ℕ
second_at m = seconds_to m.year m.month m.day m.hour m.minute m.second

-- the second at a moment, or none without one
abbrev pub time_at : Option Moment → Option ℕ
time_at None = None
time_at (Some m) = Some (second_at m)

-- it is vouched for up to the last second of 2099
abbrev pub chip_meaning : Option Moment → Meaning
chip_meaning o = until chip_last (time_at o)

-- a chip accepts the seconds of 2000 to 2099
abbrev pub chip_kind : Kind
chip_kind = kind_to chip_first chip_last

-- a second of these years has its date and time; any other is not taken
abbrev pub Reckoned : ℕ → Result Moment Refusal → Type 0
Reckoned second (Ok m) = (accepts chip_kind second ≡ true) × (second_at m ≡ second)
Reckoned second (Err why) = (accepts chip_kind second ≡ false) × (why ≡ TimeNotTaken)
