-- Two looks, and all that holds of looks.
use Rattle.std.proofs.Common.{◌≡◌, ℕ, ◌-◌, ◌<◌, ◌≤◌, List, sym, ap, ◌∙◌, subst, arith}
use Rattle.tables.specs.Cells.{Timetable, cell_at, timetable}
use Rattle.schedule.specs.Looks.{Rule, SameRule, look_at, look_of, onward}
use Rattle.schedule.specs.Laws.{Laws}
use Rattle.schedule.specs.declared.answer.Look.{Look}
use Rattle.schedule.proofs.Steadying.{steady, last_within}
use Rattle.schedule.proofs.Agree.{agreeing}
use Rattle.keeper.proofs.Leasts.{least_is}
use Rattle.schedule.proofs.Meaning.{rows_mean, events_mean}
use Rattle.schedule.proofs.Dated.{days_have_dates}
use Rattle.schedule.proofs.Openings.{openings_mean}

pub seen_twice : (z : Timetable) (f : Rule) (t u : ℕ) (l m : Look) → l ≡ look_of z f t → m ≡ look_of z f u
    → t ≤ u → u ≤ l.last_second → m ≡ onward (u - t) l
seen_twice z f t u l m p q h i =
    q ∙ (steady z f t u h (subst (λ (k : Look). u ≤ k.last_second) p i) ∙ ap (onward (u - t)) (sym p))

pub of_cells : (cells : List ℕ) (f : Rule) (t : ℕ) (l : Look) (z : Timetable) → l ≡ look_of z f t → z ≡ timetable (cell_at cells) → l ≡ look_at cells f t
of_cells cells f t l z p q = p ∙ ap (λ (w : Timetable). look_of w f t) q

pub seen_alike : (cells : List ℕ) (f g : Rule) (t : ℕ) (l m : Look) → t < 4294967296 → l ≡ look_at cells f t → m ≡ look_at cells g t → SameRule f g → l ≡ m
seen_alike cells f g t l m h p q same = p ∙ (agreeing (cell_at cells) f g t same (omega arith) ∙ sym q)

pub laws : Laws
laws = record { steady = steady; within = last_within; agreeing = agreeing; least = least_is; rows = rows_mean; events = events_mean; dates = days_have_dates; openings = openings_mean }
