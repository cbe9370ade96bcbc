-- Opening by closing is the latest event of the nearest day before that has one.
use Rattle.std.proofs.Common.{◌≡◌, ℕ, zero, suc, ◌+◌, ◌-◌, ◌<◌, Bool, ℤ, pos, ◌-ℤ◌, is_some, Some, None, Option, sym, refl, ap, ◌∙◌, ap₂, arith}
use borrow.Author.Differences.{ints}
use Rattle.keeper.specs.Least.{least_later}
use Rattle.keeper.proofs.Leasts.{later_hit, later_miss, later_end}
use Rattle.tables.specs.Cells.{Timetable}
use Rattle.schedule.specs.Plans.{plan_on, events_on}
use Rattle.schedule.specs.EventInForce.{latest_of, event_from, days_back_of, closing_from, opening_of}
use Rattle.schedule.specs.Openings.{closes, closing_within, opening_within, OpeningsMean}
use Rattle.tables.specs.declared.event.Event.{Event}
use Rattle.schedule.specs.declared.shown.EventInForce.{EventInForce}

module _ (z : Timetable) (d : ℤ) where
  abbrev latest : ℕ → Option Event
  latest back = latest_of (events_on z (d -ℤ pos back))

  abbrev has : ℕ → Bool
  has back = is_some (latest back)

  -- at t days back, with what the days before that give
  by : (t : ℕ) → t < 7 → (o : Option Event) → latest (t + 1) ≡ o → (h : Option EventInForce) → h ≡ closing_from z d (least_later has (t + 1) 7)
      → closes (plan_on z (d -ℤ pos (t + 1))) (t + 1) h o ≡ closing_from z d (least_later has t 7)
  by t l (Some e) q h i =
      let x : least_later has t 7 ≡ Some (t + 1) = later_hit has t 7 l (ap is_some q) in
      sym (ap (closing_from z d) x ∙ ap (event_from z d (t + 1)) q)
  by t l None q h i =
      let x : least_later has t 7 ≡ least_later has (t + 1) 7 = later_miss has t 7 (ap is_some q) in
      i ∙ sym (ap (closing_from z d) x)

  from : (n t : ℕ) (e : ℤ) → t + n ≡ 7 → e ≡ d -ℤ pos t → opening_within z e n ≡ closing_from z d (least_later has t 7)
  unfolding opening_within
  from zero t e h i = sym (ap (closing_from z d) (later_end has t 7 (omega arith)))
  from (suc n) t e h i =
      let a : e -ℤ pos 1 ≡ d -ℤ pos (t + 1) = omega (arith, ints) in
      let b : 7 - n ≡ t + 1 = omega arith in
      let r = from n (t + 1) (e -ℤ pos 1) (omega arith) a in
      ap₂ (λ (x : ℤ) (y : ℕ). closes (plan_on z x) y (opening_within z (e -ℤ pos 1) n) (latest_of (events_on z x))) a b
      ∙ by t (omega arith) (latest (t + 1)) refl (opening_within z (e -ℤ pos 1) n) r

pub openings_mean : OpeningsMean
unfolding opening_of days_back_of
openings_mean z d = from z d 7 0 d refl (omega (arith, ints))

-- one step of the code
pub none_left : (z : Timetable) (d : ℤ) (left : ℕ) (r : Option EventInForce) → left ≡ 0 → r ≡ None → r ≡ opening_within z d left
unfolding opening_within
none_left z d left r h e = e ∙ rw h refl

pub step : (z : Timetable) (d e : ℤ) (left fewer : ℕ) (r : Option EventInForce) → left ≡ fewer + 1 → e ≡ d -ℤ pos 1 → r ≡ closing_within z e fewer → r ≡ opening_within z d left
unfolding opening_within
step z d e left fewer r h q p = let k : left ≡ suc fewer = omega arith in p ∙ rw (k, q) refl

pub within_seven : (z : Timetable) (d e : ℤ) (r : Option EventInForce) → r ≡ opening_within z e 7 → e ≡ d → r ≡ opening_of z d
within_seven z d e r p q = p ∙ (openings_mean z e ∙ ap (opening_of z) q)
