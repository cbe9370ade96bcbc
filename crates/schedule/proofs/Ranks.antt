-- The best by rank is the best in the subject's words.
use Rattle.std.proofs.Common.{◌≡◌, ℕ, true, List, [], ◌∷◌, filter, Option, refl, ap, ◌∙◌}
use Rattle.std.specs.Ordering.{is_lt, nat_cmp, ordering_then}
use Rattle.keeper.specs.Best.{first_best}
use Rattle.keeper.proofs.Orders.{counts, numbers}
use Rattle.schedule.specs.RowInForce.{best_row, fits}
use Rattle.schedule.specs.EventInForce.{has_started, latest_of, started_by}
use Rattle.tables.specs.declared.event.Event.{Event}
use Rattle.tables.specs.declared.row.Row.{Row}

pub narrowest : (rows : List Row) (m w d : ℕ) (r : Option Row)
    → r ≡ first_best (λ x y. is_lt (ordering_then (nat_cmp x.counts.months y.counts.months) (ordering_then (nat_cmp x.counts.dates y.counts.dates) (nat_cmp x.counts.weekdays y.counts.weekdays)))) (filter (fits m w d) rows)
    → r ≡ best_row m w d rows
unfolding best_row
narrowest rows m w d r h = h ∙ (λ j. first_best (λ x y. counts x.counts y.counts j) (filter (fits m w d) rows))

pub latest_is : (events : List Event) (r : Option Event) → r ≡ first_best (λ x y. is_lt (nat_cmp y.minute x.minute)) events → r ≡ latest_of events
unfolding latest_of
latest_is events r h = h ∙ (λ j. first_best (λ x y. numbers y.minute x.minute j) events)

pub started_is : (events : List Event) (second : ℕ) (r : Option Event) → r ≡ first_best (λ x y. is_lt (nat_cmp y.minute x.minute)) (filter (has_started second) events)
    → r ≡ latest_of (started_by second events)
unfolding started_by
started_is events second r h = latest_is (filter (has_started second) events) r h

all : (events : List Event) → filter (λ _. true) events ≡ events
all [] = refl
all (e ∷ es) = ap (λ (xs : List Event). e ∷ xs) (all es)

pub latest_of_all : (events : List Event) (r : Option Event) → r ≡ first_best (λ x y. is_lt (nat_cmp y.minute x.minute)) (filter (λ _. true) events) → r ≡ latest_of events
latest_of_all events r h = latest_is events r (h ∙ ap (first_best (λ x y. is_lt (nat_cmp y.minute x.minute))) (all events))
