-- The row in force and the latest event are the first best under a total order.
use Rattle.std.proofs.Common.{◌≡◌, ℕ, true, false, ltb, filter, arith}
use Rattle.std.specs.Cmp.{IsStrictWeakOrder}
use Rattle.std.proofs.lemmas.List.MinMax.{IsStrictWeakOrder-flip, IsStrictWeakOrder-by_number}
use Rattle.std.proofs.lemmas.Bool.Decides.{nat_tests}
use Rattle.keeper.specs.Fewer.{fewer}
use Rattle.keeper.proofs.Bests.{best_is}
use Rattle.schedule.specs.RowInForce.{narrower, best_row}
use Rattle.schedule.specs.EventInForce.{latest_of, starts_later}
use Rattle.schedule.specs.Laws.{RowsMean, EventsMean}
use Rattle.tables.specs.declared.event.Event.{Event}

fewer_one_way : (a b c x y z : ℕ) → fewer a b c x y z ≡ true → fewer x y z a b c ≡ false
fewer_one_way a b c x y z h = grind (arith, nat_tests)

fewer_chain : (a b c x y z u v w : ℕ) → fewer a b c x y z ≡ false → fewer x y z u v w ≡ false → fewer a b c u v w ≡ false
fewer_chain a b c x y z u v w h i = grind (arith, nat_tests)

rows_rank : IsStrictWeakOrder narrower
rows_rank =
    record {
      one_way = λ x y h. fewer_one_way x.counts.months x.counts.dates x.counts.weekdays y.counts.months y.counts.dates y.counts.weekdays h;
      chain = λ x y z h i. fewer_chain x.counts.months x.counts.dates x.counts.weekdays y.counts.months y.counts.dates y.counts.weekdays z.counts.months z.counts.dates z.counts.weekdays h i;
    }

pub rows_mean : RowsMean
unfolding best_row
rows_mean rows d = best_is narrower rows_rank (filter _ rows)

pub events_mean : EventsMean
unfolding latest_of
events_mean events = best_is starts_later (IsStrictWeakOrder-flip (λ (x y : Event). ltb x.minute y.minute) (IsStrictWeakOrder-by_number (λ (e : Event). e.minute))) events
