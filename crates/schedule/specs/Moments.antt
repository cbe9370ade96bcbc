-- A second by the local clock. Assumes nothing.
use Rattle.std.specs.Prelude.{◌≡◌, ℕ, Option}
use Rattle.tables.specs.Cells.{Timetable}
use Rattle.schedule.specs.Boundaries.{Setting, local_at, day_at, time_at}
use Rattle.schedule.specs.Candidates.{next_change}
use Rattle.schedule.specs.Looks.{Rule, setting_of, look_of}
use Rattle.schedule.specs.declared.moment.Moment.{Moment}
use Rattle.schedule.specs.declared.answer.Look.{Look}

-- m is the second t by the local clock
pub record IsMoment (z : Setting) (t : ℕ) (m : Moment) : Type 0 where
  pub local : m.local_time ≡ local_at z t
  pub day : m.day ≡ day_at z t
  pub time : m.time ≡ time_at z t

-- r is the look at t, under each rule by which m is that second and the next change is the one given
abbrev pub LookFrom : Timetable → ℕ → Moment → Option ℕ → Look → Type 0
LookFrom z t m change r = (f : Rule) → IsMoment (setting_of z f) t m → change ≡ next_change (setting_of z f) t → r ≡ look_of z f t
