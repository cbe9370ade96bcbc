-- The first place of some that does not keep its rule, and its fault.
use Rattle.std.proofs.Common.{◌≡◌, ℕ, zero, suc, ◌+◌, ◌<◌, Bool, true, false, not, cond, List, [], ◌∷◌, ◌++◌, map, length, get_or, Some, None, Option, sym, refl, ap, ◌∙◌, arith}
use Rattle.std.specs.List.{find}
use Rattle.std.specs.Option.{MatchOption, option_map, option_or}
use Rattle.std.proofs.lemmas.List.Folds.{find-append, list_any_none}
use Rattle.std.proofs.lemmas.List.{get_or_past}
use Rattle.checks.specs.declared.fault.Fault.{Fault}
use Rattle.layout.specs.Layout.{event_cell, event_count, plan_count}
use Rattle.checks.specs.Words.{first_failing, numbers, reading, IsFirst}
use Rattle.checks.specs.Rules.{Place, good, named, cell_places, row_places, plan_places, event_places, first_fault, counts, plan_counts}
use Rattle.checks.specs.Rules.Place.{event_at}
use Rattle.checks.proofs.Numbers.{first_some}

-- the fault of the first such place
abbrev pub fault_among : (ℕ → ℕ) → List Place → Option Fault
fault_among t ps = option_map named (first_failing (good t) ps)

module _ (t : ℕ → ℕ) (at : ℕ → Place) where
  by : (b : Bool) (n : ℕ) (u : Option Place) (v : Option ℕ) → option_map named u ≡ option_map (λ n. named (at n)) v → option_map named (cond b (Some (at n)) u) ≡ option_map (λ n. named (at n)) (cond b (Some n) v)
  by true n u v e = refl
  by false n u v e = e

  -- it is found by the numbers of the places
  pub by_number : (ns : List ℕ) → fault_among t (map at ns) ≡ option_map (λ n. named (at n)) (find (λ n. not (good t (at n))) ns)
  unfolding first_failing
  by_number [] = refl
  by_number (n ∷ ns) = by (not (good t (at n))) n _ _ (by_number ns)

  -- and named
  pub found_named : (ns : List ℕ) (found : Option ℕ) → option_map (λ n. n) found ≡ find (λ n. not (good t (at n))) ns → option_map (λ n. named (at n)) found ≡ fault_among t (map at ns)
  found_named ns None e = ap (option_map (λ n. named (at n))) e ∙ sym (by_number ns)
  found_named ns (Some n) e = ap (option_map (λ n. named (at n))) e ∙ sym (by_number ns)

module _ (t : ℕ → ℕ) where
  joined : (u v : Option Place) → option_map named (option_or u v) ≡ option_or (option_map named u) (option_map named v)
  joined None v = refl
  joined (Some p) v = refl

  both : (ps qs : List Place) → fault_among t (ps ++ qs) ≡ option_or (fault_among t ps) (fault_among t qs)
  unfolding first_failing
  both ps qs = ap (option_map named) (find-append (λ p. not (good t p)) ps qs) ∙ joined (first_failing (good t) ps) (first_failing (good t) qs)

  pub events_by_plan : (ns : List ℕ) → fault_among t (event_places ns) ≡ first_some (λ p. fault_among t (map (event_at p) (numbers 1 event_count))) ns
  unfolding event_places first_failing
  events_by_plan [] = refl
  events_by_plan (p ∷ ps) =
      both (map (event_at p) (numbers 1 event_count)) (event_places ps)
      ∙ ap (option_or (fault_among t (map (event_at p) (numbers 1 event_count)))) (events_by_plan ps)

  -- `or_else`, whose closure finds d
  pub or_found : (a b d : Option Fault) (P : Type 0) → MatchOption a P (λ x. b ≡ Some x) → (P → b ≡ d) → MatchOption a (b ≡ d) (λ x. b ≡ Some x)
  or_found None b d P m f = f m
  or_found (Some x) b d P m f = m

  -- the first of two, if it is there
  next : (a b c d : Option Fault) → a ≡ c → MatchOption a (b ≡ d) (λ x. b ≡ Some x) → b ≡ option_or c d
  next None b c d e m = m ∙ ap (λ (o : Option Fault). option_or o d) e
  next (Some x) b c d e m = m ∙ ap (λ (o : Option Fault). option_or o d) e

  grouped : (a b c d : Option Fault) → option_or (option_or (option_or a b) c) d ≡ option_or a (option_or b (option_or c d))
  grouped None None c d = refl
  grouped None (Some x) c d = refl
  grouped (Some x) b c d = refl

  -- rule by rule
  pub rule_by_rule : (a b c d : Option Fault) → a ≡ fault_among t cell_places → MatchOption a (b ≡ fault_among t row_places) (λ x. b ≡ Some x)
      → MatchOption b (c ≡ fault_among t plan_places) (λ x. c ≡ Some x)
      → MatchOption c (d ≡ fault_among t (event_places (numbers 1 plan_count))) (λ x. d ≡ Some x) → d ≡ first_fault t
  unfolding first_fault
  rule_by_rule a b c d e f g h =
      let events : List Place = event_places (numbers 1 plan_count) in
      let cells = fault_among t cell_places in
      let rows = fault_among t row_places in
      let plans = fault_among t plan_places in
      let last = fault_among t events in
      next c d (option_or (option_or cells rows) plans) last (next b c (option_or cells rows) plans (next a b cells rows e f) g) h
      ∙ grouped cells rows plans last
      ∙ sym (both cell_places (row_places ++ (plan_places ++ events)) ∙ ap (option_or cells) (both row_places (plan_places ++ events) ∙ ap (option_or rows) (both plan_places events)))

module _ {X : Type 0} (good : X → Bool) where
  all_more : (x : X) (xs : List X) → good x ≡ true → ((j : ℕ) (d : X) → j < length xs → good (get_or xs j d) ≡ true) → (j : ℕ) (d : X) → j < suc (length xs) → good (get_or (x ∷ xs) j d) ≡ true
  all_more x xs h i zero d l = h
  all_more x xs h i (suc j) d l = i j d (omega arith)

  before_more : (x y : X) (xs : List X) (k : ℕ) → good x ≡ true → ((j : ℕ) → j < k → good (get_or xs j y) ≡ true) → (j : ℕ) → j < suc k → good (get_or (x ∷ xs) j y) ≡ true
  before_more x y xs k h i zero l = h
  before_more x y xs k h i (suc j) l = i j (omega arith)

  later : (x : X) (xs : List X) (o : Option X) → good x ≡ true → IsFirst good xs o → IsFirst good (x ∷ xs) o
  later x xs None h i = all_more x xs h i
  later x xs (Some y) h i = record {
    at = suc i.at;
    within = omega (arith, i.within);
    here = i.here;
    fails = i.fails;
    before = before_more x y xs i.at h i.before;
  }

  first_at_lem : (x : X) (xs : List X) (b : Bool) → good x ≡ b → IsFirst good xs (first_failing good xs) → IsFirst good (x ∷ xs) (cond (not b) (Some x) (first_failing good xs))
  first_at_lem x xs true h i = later x xs (first_failing good xs) h i
  first_at_lem x xs false h i = record { at = 0; within = omega arith; here = refl; fails = h; before = λ j l. absurd (omega arith) }

  pub first_means : (xs : List X) → IsFirst good xs (first_failing good xs)
  unfolding first_failing
  first_means [] = λ j d l. absurd (omega arith)
  first_means (x ∷ xs) = first_at_lem x xs (good x) refl (first_means xs)

-- past the last plan no event counts, since there are no cells
pub none_past : (cells : List ℕ) (p : ℕ) → length cells ≡ 706 → 16 < p → plan_counts (reading cells) p ≡ false
unfolding plan_counts
none_past cells p l h =
    let none : (e : ℕ) → counts (reading cells) p e ≡ false = λ e.
    rw (get_or_past cells (event_cell p e) 0 (omega arith), get_or_past cells (event_cell p e + 1) 0 (omega arith), get_or_past cells (event_cell p e + 2) 0 (omega arith)) refl
    in list_any_none (counts (reading cells) p) (numbers 1 event_count) (λ k d b. none _)
