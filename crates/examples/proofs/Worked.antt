-- The worked examples, computed.
use Rattle.std.proofs.Common.{◌≡◌, ℕ, ◌+◌, ◌<◌, ◌≤◌, Bool, true, false, ltb, List, [], ◌∷◌, map, length, ℤ, pos, negsuc, Some, Option, sym, refl, ap, ◌∙◌, ap₂, arith}
use borrow.Author.Differences.{ints}
use Rattle.std.specs.Option.{unwrap_or}
use Rattle.calendar.specs.Months.{month_first_of, length_at, length_of}
use Rattle.calendar.specs.Dates.{InDays, IsDate, place_of}
use Rattle.localtime.specs.Weekdays.{weekday_of}
use Rattle.keeper.specs.Best.{beaten, first_unbeaten, first_best}
use Rattle.localtime.specs.Local.{local_time_of, day_of, time_of}
use Rattle.keeper.specs.Least.{least_later, changes}
use Rattle.tables.specs.Numbered.{numbered}
use Rattle.tables.specs.Bits.{bits_in}
use Rattle.tables.specs.Cells.{Timetable, cell_at, timetable}
use Rattle.tables.specs.Cells.{events_of}
use Rattle.schedule.specs.EventInForce.{latest_of, started_by, event_in_force, no_event}
use Rattle.schedule.specs.Boundaries.{local_at, before_next}
use Rattle.schedule.specs.Candidates.{today, candidates, next_change}
use Rattle.schedule.specs.Looks.{showing, look_of, look_at}
use Rattle.schedule.specs.RowInForce.{best_row, row_on, row_number, row_plan}
use Rattle.schedule.specs.declared.shown.EventInForce.{EventInForce}
use Rattle.summer.specs.Laws.{europe}
use Rattle.summer.proofs.Stars.{examples as summers}
use Rattle.orders.specs.Form.{reads, reads_on}
use Rattle.runner.specs.Run.{run_answer, run_state}
use Rattle.std.proofs.lemmas.Bool.{le-ltb}
use Rattle.examples.specs.Orders.{OrdersStop, ordered, orders, ran_on}
use Rattle.examples.specs.Table.{cells, seconds, shown, worked}
use Rattle.examples.specs.Examples.{Examples, midsummer}
use Rattle.examples.proofs.Summers.{winter, summer, winter_again, next_in_winter, next_in_summer, next_in_winter_again}
use Rattle.tables.specs.declared.row.Row.{Row}
use Rattle.examples.proofs.Tabled.{always, christmas, table, tabled, row_by, plan_of_lem, by_parts, of_today, of_yesterday}

-- the first days of three months of 2024
march : month_first_of (place_of 2024 3) ≡ pos 19783
unfolding month_first_of length_at
march = refl

october : month_first_of (place_of 2024 10) ≡ pos 19997
unfolding month_first_of length_at
october = refl

december : month_first_of (place_of 2024 12) ≡ pos 20058
unfolding month_first_of length_at
december = refl

date : (m first n k : ℕ) → 1 ≤ m → m ≤ 12 → month_first_of (place_of 2024 m) ≡ pos first → 1 ≤ k → k ≤ length_of 2024 m → n + 1 ≡ first + k → IsDate (pos n) 2024 m k
date m first n k a b f c d e = record { month_from = a; month_to = b; day_from = c; day_to = d; number = omega (arith, ints); begun = omega arith }

in_days : (n : ℕ) → n < 49732 → InDays (pos n)
in_days n h = record { from = omega (arith, ints); to = omega (arith, ints) }

-- the row of a day of 2024
row_at : (m first n k w : ℕ) (r : Option Row) → 1 ≤ m → m ≤ 12 → month_first_of (place_of 2024 m) ≡ pos first → 1 ≤ k → k ≤ length_of 2024 m → n + 1 ≡ first + k → n < 49732
    → weekday_of (pos n) ≡ w → best_row m w k table.rows ≡ r → row_on table.rows (pos n) ≡ r
row_at m first n k w r a b f c d e h v q = row_by table.rows (pos n) 2024 m k w (in_days n h) (date m first n k a b f c d e) v ∙ q

-- the rows of the days that are looked at, and of the days before
row_19812 : row_on table.rows (pos 19812) ≡ Some always
unfolding weekday_of best_row first_best first_unbeaten beaten
row_19812 = row_at 3 19783 19812 30 7 (Some always) (omega arith) (omega arith) march (omega arith) (omega arith) refl (omega arith) refl refl

row_19813 : row_on table.rows (pos 19813) ≡ Some always
unfolding weekday_of best_row first_best first_unbeaten beaten
row_19813 = row_at 3 19783 19813 31 1 (Some always) (omega arith) (omega arith) march (omega arith) (omega arith) refl (omega arith) refl refl

row_20022 : row_on table.rows (pos 20022) ≡ Some always
unfolding weekday_of best_row first_best first_unbeaten beaten
row_20022 = row_at 10 19997 20022 26 7 (Some always) (omega arith) (omega arith) october (omega arith) (omega arith) refl (omega arith) refl refl

row_20023 : row_on table.rows (pos 20023) ≡ Some always
unfolding weekday_of best_row first_best first_unbeaten beaten
row_20023 = row_at 10 19997 20023 27 1 (Some always) (omega arith) (omega arith) october (omega arith) (omega arith) refl (omega arith) refl refl

row_20081 : row_on table.rows (pos 20081) ≡ Some always
unfolding weekday_of best_row first_best first_unbeaten beaten
row_20081 = row_at 12 20058 20081 24 3 (Some always) (omega arith) (omega arith) december (omega arith) (omega arith) refl (omega arith) refl refl

row_20082 : row_on table.rows (pos 20082) ≡ Some christmas
unfolding weekday_of best_row first_best first_unbeaten beaten
row_20082 = row_at 12 20058 20082 25 4 (Some christmas) (omega arith) (omega arith) december (omega arith) (omega arith) refl (omega arith) refl refl

row_20083 : row_on table.rows (pos 20083) ≡ Some always
unfolding weekday_of best_row first_best first_unbeaten beaten
row_20083 = row_at 12 20058 20083 26 5 (Some always) (omega arith) (omega arith) december (omega arith) (omega arith) refl (omega arith) refl refl

-- a look on the table, from its second's local time, the row of its day and the event in force then
look_by : (t : ℕ) (b : Bool) (local d : ℤ) (s : ℕ) (r : Option Row) (e : Option EventInForce) (c : Option ℕ) → europe (pos 3600) t ≡ b → local_time_of t (pos 3600) b ≡ local
    → day_of local ≡ d → time_of local ≡ s → row_on table.rows d ≡ r → event_in_force table d s ≡ e → least_later (changes (europe (pos 3600))) t 4294967295 ≡ c
    → look_at cells europe t ≡ showing local (row_number r) (row_plan r) (unwrap_or e no_event) (before_next (first_best (λ x y. ltb x y) (candidates t s (events_of table (row_plan r)) c)))
unfolding next_change
look_by t b local d s r e c hb hl hd hs hr he hc =
    ap (λ (z : Timetable). look_of z europe t) tabled ∙ by_parts table europe t b local d s r e c hb hl hd hs hr he hc

look_1711846799 : look_at cells europe 1711846799 ≡ shown 1711850399 1 1 1 2 1 2 1711846799
unfolding local_time_of day_of time_of latest_of started_by events_of today first_best first_unbeaten beaten
look_1711846799 =
    look_by 1711846799 false (pos 1711850399) (pos 19813) 7199 (Some always) _ (Some 1711846800)
    (winter (pos 3600) 1711846799 (omega arith) (omega arith)) refl refl refl row_19813
    (of_yesterday table (pos 19813) 7199 1 (sym (plan_of_lem table (pos 19813) (Some always) row_19813)) 1 (record { number = 2; minute = 1320; tariff = 2 }) (plan_of_lem table (pos 19812) (Some always) row_19812) refl refl)
    (next_in_winter (pos 3600) 1711846799 (omega arith) (omega arith))

look_1711846800 : look_at cells europe 1711846800 ≡ shown 1711854000 1 1 1 2 1 2 1711857599
unfolding local_time_of day_of time_of latest_of started_by events_of today first_best first_unbeaten beaten
look_1711846800 =
    look_by 1711846800 true (pos 1711854000) (pos 19813) 10800 (Some always) _ (Some 1729990800)
    (summer (pos 3600) 1711846800 (omega arith) (omega arith)) refl refl refl row_19813
    (of_yesterday table (pos 19813) 10800 1 (sym (plan_of_lem table (pos 19813) (Some always) row_19813)) 1 (record { number = 2; minute = 1320; tariff = 2 }) (plan_of_lem table (pos 19812) (Some always) row_19812) refl refl)
    (next_in_summer (pos 3600) 1711846800 (omega arith) (omega arith))

look_1729990799 : look_at cells europe 1729990799 ≡ shown 1729997999 1 1 1 2 1 2 1729990799
unfolding local_time_of day_of time_of latest_of started_by events_of today first_best first_unbeaten beaten
look_1729990799 =
    look_by 1729990799 true (pos 1729997999) (pos 20023) 10799 (Some always) _ (Some 1729990800)
    (summer (pos 3600) 1729990799 (omega arith) (omega arith)) refl refl refl row_20023
    (of_yesterday table (pos 20023) 10799 1 (sym (plan_of_lem table (pos 20023) (Some always) row_20023)) 1 (record { number = 2; minute = 1320; tariff = 2 }) (plan_of_lem table (pos 20022) (Some always) row_20022) refl refl)
    (next_in_summer (pos 3600) 1729990799 (omega arith) (omega arith))

look_1729990800 : look_at cells europe 1729990800 ≡ shown 1729994400 1 1 1 2 1 2 1730005199
unfolding local_time_of day_of time_of latest_of started_by events_of today first_best first_unbeaten beaten
look_1729990800 =
    look_by 1729990800 false (pos 1729994400) (pos 20023) 7200 (Some always) _ (Some 1743296400)
    (winter_again (pos 3600) 1729990800 (omega arith) (omega arith)) refl refl refl row_20023
    (of_yesterday table (pos 20023) 7200 1 (sym (plan_of_lem table (pos 20023) (Some always) row_20023)) 1 (record { number = 2; minute = 1320; tariff = 2 }) (plan_of_lem table (pos 20022) (Some always) row_20022) refl refl)
    (next_in_winter_again (pos 3600) 1729990800 (omega arith) (omega arith))

look_1735081199 : look_at cells europe 1735081199 ≡ shown 1735084799 1 1 1 2 0 2 1735081199
unfolding local_time_of day_of time_of latest_of started_by events_of today first_best first_unbeaten beaten
look_1735081199 =
    look_by 1735081199 false (pos 1735084799) (pos 20081) 86399 (Some always) _ (Some 1743296400)
    (winter_again (pos 3600) 1735081199 (omega arith) (omega arith)) refl refl refl row_20081
    (of_today table (pos 20081) 86399 1 (sym (plan_of_lem table (pos 20081) (Some always) row_20081)) (record { number = 2; minute = 1320; tariff = 2 }) refl)
    (next_in_winter_again (pos 3600) 1735081199 (omega arith) (omega arith))

look_1735081200 : look_at cells europe 1735081200 ≡ shown 1735084800 2 2 2 1 0 3 1735167599
unfolding local_time_of day_of time_of latest_of started_by events_of today first_best first_unbeaten beaten
look_1735081200 =
    look_by 1735081200 false (pos 1735084800) (pos 20082) 0 (Some christmas) _ (Some 1743296400)
    (winter_again (pos 3600) 1735081200 (omega arith) (omega arith)) refl refl refl row_20082
    (of_today table (pos 20082) 0 2 (sym (plan_of_lem table (pos 20082) (Some christmas) row_20082)) (record { number = 1; minute = 0; tariff = 3 }) refl)
    (next_in_winter_again (pos 3600) 1735081200 (omega arith) (omega arith))

look_1735167600 : look_at cells europe 1735167600 ≡ shown 1735171200 1 1 2 1 1 3 1735189199
unfolding local_time_of day_of time_of latest_of started_by events_of today first_best first_unbeaten beaten
look_1735167600 =
    look_by 1735167600 false (pos 1735171200) (pos 20083) 0 (Some always) _ (Some 1743296400)
    (winter_again (pos 3600) 1735167600 (omega arith) (omega arith)) refl refl refl row_20083
    (of_yesterday table (pos 20083) 0 1 (sym (plan_of_lem table (pos 20083) (Some always) row_20083)) 2 (record { number = 1; minute = 0; tariff = 3 }) (plan_of_lem table (pos 20082) (Some christmas) row_20082) refl refl)
    (next_in_winter_again (pos 3600) 1735167600 (omega arith) (omega arith))

looks : map (look_at cells europe) seconds ≡ worked
looks =
    ap₂ ◌∷◌ look_1711846799 (ap₂ ◌∷◌ look_1711846800 (ap₂ ◌∷◌ look_1729990799 (ap₂ ◌∷◌ look_1729990800 (ap₂ ◌∷◌ look_1735081199 (ap₂ ◌∷◌ look_1735081200 (ap₂ ◌∷◌ look_1735167600 (refl)))))))

-- with no cells at all
west : (look_at [] europe 0).local_time ≡ negsuc 43199
unfolding look_of local_at local_time_of timetable
west = refl

-- 21 June 2024
june : month_first_of (place_of 2024 6) ≡ pos 19875
unfolding month_first_of length_at
june = refl

midsummer_row : row_number (row_on (timetable (cell_at midsummer)).rows (pos 19895)) ≡ 2
unfolding timetable numbered bits_in weekday_of best_row first_best first_unbeaten beaten
midsummer_row =
    ap row_number (row_by (timetable (cell_at midsummer)).rows (pos 19895) 2024 6 21 6 (in_days 19895 (omega arith))
    (date 6 19875 19895 21 (omega arith) (omega arith) june (omega arith) (omega arith) refl) refl)

last_of_1969 : IsDate (negsuc 0) 1969 12 31
unfolding month_first_of
last_of_1969 = record { month_from = omega arith; month_to = omega arith; day_from = omega arith; day_to = omega arith; number = refl; begun = omega arith }

orders_so : (made : List ℕ) → map (ran_on made) orders ≡ ordered
unfolding reads reads_on run_answer
orders_so made = refl

orders_stop : OrdersStop
unfolding reads reads_on run_answer run_state
orders_stop = record {
  stray = λ made h. rw (le-ltb 65535 (length made) h);
  undone = λ made h. rw (le-ltb 65535 (length made) h);
  busy = λ made edit. refl;
  stays = λ made edit. refl;
}

pub shown_so : Examples
unfolding day_of weekday_of
shown_so =
    record {
      looks = looks;
      summers = summers;
      west = west;
      before = refl;
      wednesday = refl;
      december = last_of_1969;
      june = date 6 19875 19895 21 (omega arith) (omega arith) june (omega arith) (omega arith) refl;
      midsummer = midsummer_row;
      orders = orders_so;
      stops = orders_stop;
    }
