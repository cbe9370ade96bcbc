-- Where the rule does not change, local time runs on; where no boundary comes, the day and its events stay.
use Rattle.std.proofs.Common.{◌≡◌, ℕ, zero, suc, ◌+◌, ◌-◌, ◌<◌, ◌≤◌, Bool, true, false, ◌&&◌, eqb, ℤ, pos, ◌+ℤ◌, sym, refl, ap, ◌∙◌, subst, inl, inr, arith}
use borrow.Author.Differences.{ints}
use Rattle.std.proofs.lemmas.Bool.{or_parts, eqb-false, cases_lt}
use Rattle.localtime.specs.Local.{local_time_of, Falls}
use Rattle.localtime.proofs.Floors.{falls, only}
use Rattle.keeper.specs.Least.{differs, changes}
use Rattle.schedule.specs.Boundaries.{Setting, local_at, day_at, time_at, events_at, starts_now, boundary}

module _ (z : Setting) where
  pub falls_at : (t : ℕ) → Falls (local_at z t) (day_at z t) (time_at z t)
  unfolding day_at time_at
  falls_at t = falls (local_at z t)

  pub falls_only : (t : ℕ) (d : ℤ) (s : ℕ) → Falls (local_at z t) d s → (day_at z t ≡ d) × (time_at z t ≡ s)
  unfolding day_at time_at
  falls_only t d s f = let e = only (local_at z t) d s f in (sym e.0, sym e.1)

  -- no change of the rule in the seconds after t, up to u
  abbrev pub Calm : ℕ → ℕ → Type 0
  Calm t u = (k : ℕ) → t < k → k ≤ u → (z.summer && changes z.in_force k) ≡ false

  same_bits : (a b : Bool) → differs a b ≡ false → a ≡ b
  same_bits true true h = refl
  same_bits true false h = h
  same_bits false true h = sym h
  same_bits false false h = refl

  under : (w a b : Bool) → (w && differs a b) ≡ false → (w && a) ≡ (w && b)
  under true a b h = same_bits a b h
  under false a b h = refl

  -- one calm second
  step : (k : ℕ) → (z.summer && changes z.in_force (k + 1)) ≡ false → (z.summer && z.in_force (k + 1)) ≡ (z.summer && z.in_force k)
  step k h =
      let e : k + 1 - 1 ≡ k = omega arith in
      under z.summer (z.in_force (k + 1)) (z.in_force k) (subst (λ (j : ℕ). (z.summer && differs (z.in_force (k + 1)) (z.in_force j)) ≡ false) e h)

  still : (n t : ℕ) → Calm t (t + n) → (z.summer && z.in_force (t + n)) ≡ (z.summer && z.in_force t)
  still zero t h = ap (λ (j : ℕ). z.summer && z.in_force j) (omega arith)
  still (suc n) t h =
      ap (λ (j : ℕ). z.summer && z.in_force j) (omega arith)
      ∙ (step (t + n) (h (t + n + 1) (omega arith) (omega arith)) ∙ still n t (λ k a b. h k a (omega arith)))

  -- local time runs on by the seconds between
  pub runs : (t u : ℕ) → t ≤ u → Calm t u → local_at z u ≡ local_at z t +ℤ pos (u - t)
  unfolding local_at local_time_of
  runs t u h c =
      let e : t + (u - t) ≡ u = omega arith in
      let s : (z.summer && z.in_force u) ≡ (z.summer && z.in_force t) =
      subst (λ (j : ℕ). (z.summer && z.in_force j) ≡ (z.summer && z.in_force t)) e (still (u - t) t (λ k a b. c k a (omega arith))) in
      rw s (omega (arith, ints))

  -- the three parts of no boundary
  no_midnight : (k : ℕ) → boundary z k ≡ false → time_at z k ≡ 0 → ⊥
  unfolding boundary
  no_midnight k h = eqb-false (time_at z k) 0 (or_parts (eqb (time_at z k) 0) _ h).0

  pub no_start : (k : ℕ) → boundary z k ≡ false → starts_now (events_at z k) (time_at z k) ≡ false
  unfolding boundary
  no_start k h = (or_parts (starts_now (events_at z k) (time_at z k)) _ (or_parts (eqb (time_at z k) 0) _ h).1).0

  no_change : (k : ℕ) → boundary z k ≡ false → (z.summer && changes z.in_force k) ≡ false
  unfolding boundary
  no_change k h = (or_parts (starts_now (events_at z k) (time_at z k)) _ (or_parts (eqb (time_at z k) 0) _ h).1).1

  -- no boundary in the seconds after t, up to u
  abbrev pub Free : ℕ → ℕ → Type 0
  Free t u = (k : ℕ) → t < k → k ≤ u → boundary z k ≡ false

  pub calm : (t u : ℕ) → Free t u → Calm t u
  calm t u h = λ k a b. no_change k (h k a b)

  -- where the rule is calm and the day does not end, the day and its second run on
  pub placed : (t u : ℕ) → t ≤ u → Calm t u → time_at z t + (u - t) < 86400 → (day_at z u ≡ day_at z t) × (time_at z u ≡ time_at z t + (u - t))
  placed t u h c b =
      let e = runs t u h c in
      let f = falls_at t in
      falls_only u (day_at z t) (time_at z t + (u - t)) (record { whole = omega (arith, ints); below = b })

  -- where it ends, its end is a midnight
  pub midnight : (t : ℕ) → Calm t (t + (86400 - time_at z t)) → time_at z (t + (86400 - time_at z t)) ≡ 0
  midnight t c =
      let e = runs t (t + (86400 - time_at z t)) (omega arith) c in
      let f = falls_at t in
      (falls_only (t + (86400 - time_at z t)) (day_at z t +ℤ pos 1) 0 (record { whole = omega (arith, ints); below = omega arith })).1

  -- no boundary: the day does not end
  pub inside : (t u : ℕ) → t ≤ u → Free t u → time_at z t + (u - t) < 86400
  inside t u h n =
      elim (cases_lt (time_at z t + (u - t)) 86400) [
        | inl q ↦ q
        | inr q ↦
            let f = (falls_at t).below in
            absurd (no_midnight (t + (86400 - time_at z t)) (n (t + (86400 - time_at z t)) (omega arith) (omega arith))
            (midnight t (λ k a b. calm t u n k a (omega arith))))
      ]

  pub events_at_lem : (k t : ℕ) → day_at z k ≡ day_at z t → events_at z k ≡ events_at z t
  events_at_lem k t e = ap z.events_on e
