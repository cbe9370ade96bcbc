-- The parts of a look put together.
use Rattle.std.proofs.Common.{◌≡◌, ℕ, List, ℤ, Some, None, Option, ap, ◌∙◌}
use Rattle.std.specs.Option.{IsSomeAnd, MatchOption, unwrap_or}
use Rattle.tables.specs.Cells.{Timetable}
use Rattle.schedule.specs.RowInForce.{row_on, row_number}
use Rattle.schedule.specs.Plans.{plan_on, events_on}
use Rattle.tables.specs.Cells.{events_of}
use Rattle.schedule.specs.EventInForce.{latest_of, started_by, opening_of, latest_or, event_in_force, event_of, no_event}
use Rattle.schedule.specs.Boundaries.{local_at, day_at, time_at, last_of}
use Rattle.schedule.specs.Candidates.{LastFrom}
use Rattle.schedule.specs.Looks.{setting_of, showing, look_of}
use Rattle.schedule.specs.Moments.{LookFrom}
use Rattle.tables.specs.declared.event.Event.{Event}
use Rattle.schedule.specs.declared.shown.EventInForce.{EventInForce}
use Rattle.schedule.specs.declared.moment.Moment.{Moment}

module _ (z : Timetable) (d : ℤ) (s p : ℕ) (es : List Event) (today : p ≡ plan_on z d) (is : es ≡ events_of z p) where
  events : es ≡ events_on z d
  events = is ∙ ap (events_of z) today

  in_force_lem : (o : Option Event) → o ≡ latest_of (started_by s es) → latest_or z d o ≡ event_in_force z d s
  unfolding event_in_force
  in_force_lem o h = ap (latest_or z d) (h ∙ ap (λ (xs : List Event). latest_of (started_by s xs)) events)

  pub started : (e : Event) → Some e ≡ latest_of (started_by s es) → Some (event_of p 0 e) ≡ event_in_force z d s
  started e h = ap (λ (q : ℕ). Some (event_of q 0 e)) today ∙ in_force_lem (Some e) h

  pub opened : (r : Option EventInForce) → r ≡ opening_of z d → None ≡ latest_of (started_by s es) → r ≡ event_in_force z d s
  opened r e h = e ∙ in_force_lem None h

  -- the latest event that has started, as Of makes it one in force, or what Opens gives
  pub in_force_by : (Of : Event → EventInForce → Type 0) (Opens : Type 0) (o : Option Event) (of r : Option EventInForce) → o ≡ latest_of (started_by s es)
      → ((x : Event) (y : EventInForce) → Of x y → y ≡ event_of p 0 x) → (Opens → r ≡ opening_of z d)
      → MatchOption o (of ≡ None) (λ x. IsSomeAnd of (Of x)) → MatchOption of Opens (λ y. r ≡ Some y) → r ≡ event_in_force z d s
  in_force_by Of Opens None (Some y) r h f g a b = cc
  in_force_by Of Opens None None r h f g a b = opened r (g b) h
  in_force_by Of Opens (Some x) (Some y) r h f g a b = b ∙ (ap Some (f x y a) ∙ started x h)
  in_force_by Of Opens (Some x) None r h f g a b = absurd a

module _ (z : Timetable) (t : ℕ) (m : Moment) (change : Option ℕ) (local d : ℤ) (p n : ℕ) (es : List Event) where
  pub whole : (o : Option EventInForce) (e : EventInForce) (last : ℕ) → local ≡ m.local_time → d ≡ m.day → n ≡ row_number (row_on z.rows d) → p ≡ plan_on z d
      → o ≡ event_in_force z d m.time → e ≡ unwrap_or o no_event → es ≡ events_of z p → LastFrom t m.time es change last → LookFrom z t m change (showing local n p e last)
  unfolding look_of
  whole o e last hl hd hn hp ho he hs from f i c =
      let day : d ≡ day_at (setting_of z f) t = hd ∙ i.day in
      let today : p ≡ plan_on z (day_at (setting_of z f) t) = hp ∙ ap (plan_on z) day in
      let time = i.time in
      let ends : last ≡ last_of (setting_of z f) t = from (setting_of z f) time (hs ∙ ap (events_of z) today) c in
      let l : local ≡ local_at (setting_of z f) t = hl ∙ i.local in
      let r : n ≡ row_number (row_on z.rows (day_at (setting_of z f) t)) = hn ∙ ap (λ (x : ℤ). row_number (row_on z.rows x)) day in
      let v : o ≡ event_in_force z (day_at (setting_of z f) t) (time_at (setting_of z f) t) =
      ho ∙ (ap (λ (x : ℤ). event_in_force z x m.time) day ∙ ap (event_in_force z (day_at (setting_of z f) t)) time) in
      rw (l, r, today, he, v, ends)
