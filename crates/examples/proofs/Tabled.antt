-- The table as a timetable, computed once, and a look by its parts.
use Rattle.std.proofs.Common.{◌≡◌, ℕ, Bool, true, ◌&&◌, ltb, List, [], ◌∷◌, ℤ, pos, ◌-ℤ◌, is_some, Some, None, Option, sym, refl, ap, ◌∙◌, arith}
use Rattle.std.specs.Option.{unwrap_or}
use Rattle.calendar.specs.Dates.{InDays, IsDate}
use Rattle.localtime.specs.Local.{local_time_of, day_of, time_of}
use Rattle.localtime.specs.Weekdays.{weekday_of}
use Rattle.keeper.specs.Best.{first_best}
use Rattle.tables.specs.Numbered.{numbered}
use Rattle.tables.specs.Bits.{bits_in}
use Rattle.tables.specs.Cells.{Timetable, cell_at, plans_at, timetable}
use Rattle.schedule.specs.RowInForce.{best_row, row_on, row_number, row_plan}
use Rattle.schedule.specs.Plans.{plan_on, events_on}
use Rattle.tables.specs.Cells.{events_of}
use Rattle.schedule.specs.EventInForce.{latest_of, started_by, days_back_of, event_from, closing_from, opening_of, event_in_force, event_of, no_event}
use Rattle.schedule.specs.Boundaries.{local_at, day_at, time_at, before_next, last_of}
use Rattle.schedule.specs.Candidates.{candidates, next_change}
use Rattle.schedule.specs.Looks.{Rule, setting_of, showing, look_of}
use Rattle.tables.specs.declared.row.Row.{Row}
use Rattle.tables.specs.declared.event.Event.{Event}
use Rattle.schedule.specs.declared.shown.EventInForce.{EventInForce}
use Rattle.schedule.proofs.Dated.{month_is, date_is}
use Rattle.schedule.proofs.Nearest.{nearest}
use Rattle.schedule.proofs.Wholes.{started, opened}
use Rattle.keeper.proofs.Leasts.{later_hit}
use Rattle.examples.specs.Table.{cells}

abbrev at : ℕ → ℕ → ℕ → Event
at n m x = record { number = n; minute = m; tariff = x }

abbrev row : ℕ → ℕ → ℕ → ℕ → ℕ → ℕ → ℕ → ℕ → Row
row n months weekdays dates plan m d w =
    record { number = n; months = months; weekdays = weekdays; dates = dates; plan = plan; counts = record { months = m; dates = d; weekdays = w } }

abbrev pub always : Row
always = row 1 8190 254 4294967294 1 12 31 7

abbrev pub christmas : Row
christmas = row 2 4096 254 33554432 2 1 1 7

abbrev pub table : Timetable
table =
    record {
      offset = pos 3600;
      summer = true;
      rows = always ∷ christmas ∷ [];
      plans = [] ∷ (at 1 360 1 ∷ at 2 1320 2 ∷ []) ∷ (at 1 0 3 ∷ []) ∷ [] ∷ [] ∷ [] ∷ [] ∷ [] ∷ [] ∷ [] ∷ [] ∷ [] ∷ [] ∷ [] ∷ [] ∷ [] ∷ [] ∷ [];
    }

pub tabled : timetable (cell_at cells) ≡ table
unfolding timetable plans_at numbered bits_in cells
tabled = refl

-- the row of a day of the calendar, by its date
pub row_by : (rows : List Row) (d : ℤ) (y m k w : ℕ) → InDays d → IsDate d y m k → weekday_of d ≡ w → row_on rows d ≡ best_row m w k rows
row_by rows d y m k w h i e = rw (month_is d y m k i h, date_is d y m k i h, e)

-- a look from what is known of its second
pub plan_of_lem : (z : Timetable) (d : ℤ) (r : Option Row) → row_on z.rows d ≡ r → plan_on z d ≡ row_plan r
unfolding plan_on
plan_of_lem z d r h = ap row_plan h

module _ (z : Timetable) (f : Rule) (t : ℕ) (b : Bool) (local d : ℤ) (s : ℕ) (r : Option Row) (e : Option EventInForce) (c : Option ℕ) where
  local_is : f z.offset t ≡ b → local_time_of t z.offset (z.summer && b) ≡ local → local_at (setting_of z f) t ≡ local
  unfolding local_at
  local_is hb hl = ap (λ (w : Bool). local_time_of t z.offset (z.summer && w)) hb ∙ hl

  day_is : local_at (setting_of z f) t ≡ local → day_of local ≡ d → day_at (setting_of z f) t ≡ d
  unfolding day_at
  day_is l h = ap day_of l ∙ h

  time_is : local_at (setting_of z f) t ≡ local → time_of local ≡ s → time_at (setting_of z f) t ≡ s
  unfolding time_at
  time_is l h = ap time_of l ∙ h

  last_is : day_at (setting_of z f) t ≡ d → time_at (setting_of z f) t ≡ s → plan_on z d ≡ row_plan r → next_change (setting_of z f) t ≡ c
      → last_of (setting_of z f) t ≡ before_next (first_best (λ x y. ltb x y) (candidates t s (events_of z (row_plan r)) c))
  unfolding last_of
  last_is day time plan change = ap before_next (sym (nearest (setting_of z f) t)) ∙ rw (time, day, plan, change)

  pub by_parts : f z.offset t ≡ b → local_time_of t z.offset (z.summer && b) ≡ local → day_of local ≡ d → time_of local ≡ s → row_on z.rows d ≡ r
      → event_in_force z d s ≡ e → next_change (setting_of z f) t ≡ c
      → look_of z f t ≡ showing local (row_number r) (row_plan r) (unwrap_or e no_event) (before_next (first_best (λ x y. ltb x y) (candidates t s (events_of z (row_plan r)) c)))
  unfolding look_of
  by_parts hb hl hd hs hr he hc =
      let l = local_is hb hl in
      let day = day_is l hd in
      let time = time_is l hs in
      let plan = plan_of_lem z d r hr in
      let ends = last_is day time plan hc in
      rw (l, day, time, ends, hr, plan, he)

-- the event in force: one that has started today, or else yesterday's last
module _ (z : Timetable) (d : ℤ) (s p : ℕ) (today : p ≡ plan_on z d) where
  pub of_today : (e : Event) → Some e ≡ latest_of (started_by s (events_of z p))
      → event_in_force z d s ≡ Some (event_of p 0 e)
  of_today e h = sym (started z d s p (events_of z p) today refl e h)

  pub of_yesterday : (q : ℕ) (e : Event) → plan_on z (d -ℤ pos 1) ≡ q → None ≡ latest_of (started_by s (events_of z p)) → latest_of (events_of z q) ≡ Some e
      → event_in_force z d s ≡ Some (event_of q 1 e)
  unfolding opening_of days_back_of
  of_yesterday q e a h l =
      let yesterday : latest_of (events_on z (d -ℤ pos 1)) ≡ Some e = ap (λ (n : ℕ). latest_of (events_of z n)) a ∙ l in
      let back : days_back_of z d ≡ Some 1 = later_hit (λ j. is_some (latest_of (events_on z (d -ℤ pos j)))) 0 7 (omega arith) (ap is_some yesterday) in
      let opening : opening_of z d ≡ Some (event_of q 1 e) =
      ap (closing_from z d) back ∙ (ap (event_from z d 1) yesterday ∙ ap (λ (n : ℕ). Some (event_of n 1 e)) a) in
      sym (opened z d s p (events_of z p) today refl (opening_of z d) refl h) ∙ opening
