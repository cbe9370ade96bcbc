-- The least of the candidates is the least later boundary.
use Rattle.std.proofs.Common.{◌≡◌, ℕ, ◌+◌, ◌-◌, ◌*◌, ◌<◌, ◌≤◌, Bool, true, false, cond, ◌&&◌, eqb, ltb, leb, List, [], ◌∷◌, get_or, Some, None, Option, sym, refl, ap, ◌∙◌, subst, ap₂, inl, inr, arith}
use Rattle.std.proofs.lemmas.Bool.{or_from, or_left, or_right, cases_Bool, eq-eqb, ne_eqb, cases_lt, ltb-true, ltb-false, leb-true, leb-false}
use Rattle.std.specs.List.{Contains, flat_map}
use Rattle.std.proofs.lemmas.List.Elements.{All-contains, All-from_get_or, Contains-append_cases, Contains-append_left, Contains-append_right, Contains-push, Contains-push_cases}
use Rattle.std.proofs.lemmas.List.MinMax.{IsStrictWeakOrder-by_number}
use Rattle.keeper.specs.Least.{least_later, changes, IsLeast}
use Rattle.keeper.specs.Best.{first_best, IsFirstBest}
use Rattle.keeper.proofs.Leasts.{least_is, least_only}
use Rattle.keeper.proofs.Bests.{best_is}
use Rattle.tables.specs.Numbered.{alone}
use Rattle.schedule.specs.Boundaries.{Setting, time_at, events_at, starts_now, boundary, before_next, last_of}
use Rattle.schedule.specs.Candidates.{up_to, ahead, today, candidates, next_change, LastFrom}
use Rattle.tables.specs.declared.event.Event.{Event}
use Rattle.schedule.proofs.Running.{Calm, placed, midnight, falls_at, events_at_lem}

-- no number of the list is below b
abbrev From : ℕ → List ℕ → Type 0
From b xs = (x : ℕ) → Contains xs x → b ≤ x

nothing : (x : ℕ) → Contains [] x → ⊥
nothing x (k, l, e) = omega arith

alone_is : (n x : ℕ) → Contains (n ∷ []) x → n ≡ x
alone_is n x h = elim (Contains-push_cases [] n x h) [ inl g ↦ absurd (nothing x g) | inr e ↦ e ]

-- the least of a list
abbrev IsMin : List ℕ → Option ℕ → Type 0
IsMin xs (Some c) = Contains xs c × From c xs
IsMin xs None = xs ≡ []

least_of : (xs : List ℕ) (o : Option ℕ) → IsFirstBest (λ x y. ltb x y) xs o → IsMin xs o
least_of xs None h = h
least_of xs (Some c) h = (
  (h.place, h.within, sym h.is),
  λ x i. All-contains (λ y. c ≤ y) xs x (All-from_get_or (λ y. c ≤ y) xs c (λ k l. let g = ltb-false (get_or xs k c) c (h.best k l) in omega arith)) i,
)

-- a second that is offered only up to the last
up_to-from : (b n : ℕ) → b ≤ 4294967296 → From b (up_to n) → b ≤ n
up_to-from b n h a = by (leb n 4294967295) refl a
  where
    by : (w : Bool) → leb n 4294967295 ≡ w → From b (cond w (n ∷ []) []) → b ≤ n
    by true e g = g n (Contains-push [] n)
    by false e g = let f = leb-false n 4294967295 e in omega arith

up_to-in : (x n : ℕ) → Contains (up_to n) x → (x ≡ n) × (n ≤ 4294967295)
up_to-in x n a = by (leb n 4294967295) refl a
  where
    by : (w : Bool) → leb n 4294967295 ≡ w → Contains (cond w (n ∷ []) []) x → (x ≡ n) × (n ≤ 4294967295)
    by true e g = (sym (alone_is n x g), leb-true n 4294967295 e)
    by false e g = absurd (nothing x g)

ahead_from : (t s b : ℕ) (e : Event) (j : ℕ) → b ≤ 4294967296 → From b (ahead t s e) → s < j → t + (j - s) < b → eqb (e.minute * 60) j ≡ false
ahead_from t s b e j h a u v = by (ltb s (e.minute * 60)) refl a
  where
    by : (w : Bool) → ltb s (e.minute * 60) ≡ w → From b (cond w (up_to (t + (e.minute * 60 - s))) []) → eqb (e.minute * 60) j ≡ false
    by true q g = let n = up_to-from b (t + (e.minute * 60 - s)) h g in ne_eqb (e.minute * 60) j (omega arith)
    by false q g = let f = ltb-false s (e.minute * 60) q in ne_eqb (e.minute * 60) j (omega arith)

ahead_in : (t s x : ℕ) (e : Event) → Contains (ahead t s e) x → (t < x) × (x ≤ 4294967295) × (eqb (e.minute * 60) (s + (x - t)) ≡ true)
ahead_in t s x e a = by (ltb s (e.minute * 60)) refl a
  where
    by : (w : Bool) → ltb s (e.minute * 60) ≡ w → Contains (cond w (up_to (t + (e.minute * 60 - s))) []) x → (t < x) × (x ≤ 4294967295) × (eqb (e.minute * 60) (s + (x - t)) ≡ true)
    by true q g =
        let l = ltb-true s (e.minute * 60) q in
        let v = up_to-in x (t + (e.minute * 60 - s)) g in
        (omega (arith, v), omega (arith, v), eq-eqb (e.minute * 60) (s + (x - t)) (omega (arith, v)))
    by false q g = absurd (nothing x g)

starts_from : (t s b : ℕ) (es : List Event) → b ≤ 4294967296 → From b (flat_map (ahead t s) es) → (j : ℕ) → s < j → t + (j - s) < b → starts_now es j ≡ false
unfolding starts_now
starts_from t s b [] h a j u v = refl
starts_from t s b (e ∷ es) h a j u v =
    or_from (eqb (e.minute * 60) j) _
    (ahead_from t s b e j h (λ x i. a x (Contains-append_left (ahead t s e) _ x i)) u v)
    (starts_from t s b es h (λ x i. a x (Contains-append_right (ahead t s e) _ x i)) j u v)

starts_in : (t s x : ℕ) (es : List Event) → Contains (flat_map (ahead t s) es) x → (t < x) × (x ≤ 4294967295) × (starts_now es (s + (x - t)) ≡ true)
unfolding starts_now
starts_in t s x [] a = absurd (nothing x a)
starts_in t s x (e ∷ es) a =
    elim (Contains-append_cases (ahead t s e) (flat_map (ahead t s) es) x a) [
      | inl g ↦ let (p, q, r) = ahead_in t s x e g in (p, q, or_left (eqb (e.minute * 60) (s + (x - t))) _ r)
      | inr g ↦ let (p, q, r) = starts_in t s x es g in (p, q, or_right (eqb (e.minute * 60) (s + (x - t))) _ r)
    ]

-- the rule's next change is the least second at which summer time is on and the rule changes
next : (w : Bool) (f : ℕ → Bool) (t l : ℕ) → IsLeast (λ k. w && changes f k) t l (cond w (least_later (changes f) t l) None)
next true f t l = least_is (changes f) t l
next false f t l = λ k a b. refl

module _ (z : Setting) (t : ℕ) where
  abbrev change : ℕ → Bool
  change k = z.summer && changes z.in_force k

  next_change_lem : IsLeast change t 4294967295 (next_change z t)
  unfolding next_change
  next_change_lem = next z.summer z.in_force t 4294967295

  change_from : (c : Option ℕ) (b : ℕ) → b ≤ 4294967296 → IsLeast change t 4294967295 c → From b (alone c) → (k : ℕ) → t < k → k < b → change k ≡ false
  change_from (Some c) b h l a k u v = let g = a c (Contains-push [] c) in l.first k u (omega arith)
  change_from None b h l a k u v = l k u (omega arith)

  change_in : (c : Option ℕ) (x : ℕ) → IsLeast change t 4294967295 c → Contains (alone c) x → (t < x) × (x ≤ 4294967295) × (change x ≡ true)
  change_in (Some c) x l h = let e = alone_is c x h in (omega (arith, l.later), omega (arith, l.within), subst (λ (k : ℕ). change k ≡ true) e l.holds)
  change_in None x l h = absurd (nothing x h)

  -- what is before b: no end of the day, no start and no change
  record Below (b : ℕ) : Type 0 where
    pub day : b ≤ t + (86400 - time_at z t)
    pub starts : (j : ℕ) → time_at z t < j → t + (j - time_at z t) < b → starts_now (events_at z t) j ≡ false
    pub changes : (k : ℕ) → t < k → k < b → change k ≡ false

  below : (b : ℕ) → b ≤ 4294967296 → From b (candidates t (time_at z t) (events_at z t) (next_change z t)) → Below b
  unfolding today
  below b h a =
      let first : From b (today t (time_at z t) (events_at z t)) = λ x i. a x (Contains-append_left (today t (time_at z t) (events_at z t)) _ x i) in
      record {
        day = up_to-from b (t + (86400 - time_at z t)) h (λ x i. first x (Contains-append_left (up_to (t + (86400 - time_at z t))) _ x i));
        starts = starts_from t (time_at z t) b (events_at z t) h (λ x i. first x (Contains-append_right (up_to (t + (86400 - time_at z t))) _ x i));
        changes = change_from (next_change z t) b h next_change_lem (λ x i. a x (Contains-append_right (today t (time_at z t) (events_at z t)) _ x i));
      }

  -- so there is no boundary
  none_below : (b : ℕ) → Below b → (k : ℕ) → t < k → k < b → boundary z k ≡ false
  unfolding boundary
  none_below b h k u v =
      let d = h.day in
      let c : Calm z t k = λ j x y. h.changes j x (omega arith) in
      let p = placed z t k (omega arith) c (omega arith) in
      let e : time_at z k ≡ time_at z t + (k - t) = p.1 in
      or_from (eqb (time_at z k) 0) _ (ne_eqb (time_at z k) 0 (omega arith))
      (or_from (starts_now (events_at z k) (time_at z k)) _
      (ap₂ starts_now (events_at_lem z k t p.0) e ∙ h.starts (time_at z t + (k - t)) (omega arith) (omega arith))
      (h.changes k u v))

  -- the three ways to a boundary
  struck_change : (k : ℕ) → change k ≡ true → boundary z k ≡ true
  unfolding boundary
  struck_change k h = or_right (eqb (time_at z k) 0) _ (or_right (starts_now (events_at z k) (time_at z k)) _ h)

  struck_midnight : (k : ℕ) → time_at z k ≡ 0 → boundary z k ≡ true
  unfolding boundary
  struck_midnight k h = or_left (eqb (time_at z k) 0) _ (eq-eqb (time_at z k) 0 h)

  struck_start : (k : ℕ) → starts_now (events_at z k) (time_at z k) ≡ true → boundary z k ≡ true
  unfolding boundary
  struck_start k h = or_right (eqb (time_at z k) 0) _ (or_left (starts_now (events_at z k) (time_at z k)) _ h)

  -- a candidate before which nothing comes is a boundary
  calm_to : (x : ℕ) → Below x → change x ≡ false → Calm z t x
  calm_to x h e k g i =
      elim (cases_lt k x) [
        | inl q ↦ h.changes k g q
        | inr q ↦ let same : x ≡ k = omega arith in subst (λ (j : ℕ). change j ≡ false) same e
      ]

  at_midnight : (x : ℕ) → Below x → x ≡ t + (86400 - time_at z t) → boundary z x ≡ true
  at_midnight x h e =
      elim (cases_Bool (change x)) [
        | inl q ↦ struck_change x q
        | inr q ↦ struck_midnight x (subst (λ (k : ℕ). Calm z t k → time_at z k ≡ 0) (sym e) (midnight z t) (calm_to x h q))
      ]

  at_start : (x : ℕ) → t < x → Below x → starts_now (events_at z t) (time_at z t + (x - t)) ≡ true → boundary z x ≡ true
  at_start x u h e =
      let d = h.day in
      elim (cases_lt x (t + (86400 - time_at z t))) [
        | inr v ↦ at_midnight x h (omega arith)
        | inl v ↦
            elim (cases_Bool (change x)) [
              | inl q ↦ struck_change x q
              | inr q ↦
                  let p = placed z t x (omega arith) (calm_to x h q) (omega arith) in
                  struck_start x (ap₂ starts_now (events_at_lem z x t p.0) p.1 ∙ e)
            ]
      ]

  -- each candidate comes later, up to the last second, and is a boundary where nothing comes before it
  record Hit (x : ℕ) : Type 0 where
    pub later : t < x
    pub within : x ≤ 4294967295
    pub struck : Below x → boundary z x ≡ true

  hit : (x : ℕ) → Contains (candidates t (time_at z t) (events_at z t) (next_change z t)) x → Hit x
  unfolding today
  hit x i =
      let f = (falls_at z t).below in
      elim (Contains-append_cases (today t (time_at z t) (events_at z t)) _ x i) [
        | inr g ↦
            let (p, q, r) = change_in (next_change z t) x next_change_lem g in
            record { later = p; within = q; struck = λ h. struck_change x r }
        | inl g ↦
            elim (Contains-append_cases (up_to (t + (86400 - time_at z t))) _ x g) [
              | inl v ↦
                  let e = up_to-in x (t + (86400 - time_at z t)) v in
                  record { later = omega (arith, e); within = omega (arith, e); struck = λ h. at_midnight x h e.0 }
              | inr v ↦
                  let (p, q, r) = starts_in t (time_at z t) x (events_at z t) v in
                  record { later = p; within = q; struck = λ h. at_start x p h r }
            ]
      ]

  is_least : (o : Option ℕ) → IsMin (candidates t (time_at z t) (events_at z t) (next_change z t)) o → IsLeast (boundary z) t 4294967295 o
  is_least (Some x) (i, a) =
      let g = hit x i in
      let w = g.within in
      let h = below x (omega arith) a in
      record { later = g.later; within = w; holds = g.struck h; first = none_below x h }
  is_least None e = λ k u v.
      none_below 4294967296 (below 4294967296 (omega arith) (λ x i. absurd (nothing x (subst (λ (ys : List ℕ). Contains ys x) e i)))) k u (omega arith)

  -- the first best of the candidates under 'earlier' is the next boundary
  pub nearest : first_best (λ x y. ltb x y) (candidates t (time_at z t) (events_at z t) (next_change z t)) ≡ least_later (boundary z) t 4294967295
  nearest =
      least_only (boundary z) t 4294967295 (first_best (λ x y. ltb x y) (candidates t (time_at z t) (events_at z t) (next_change z t)))
      (is_least _ (least_of _ _ (best_is (λ x y. ltb x y) (IsStrictWeakOrder-by_number (λ (n : ℕ). n)) (candidates t (time_at z t) (events_at z t) (next_change z t)))))

-- the last second by the candidates
pub last_by : (t s : ℕ) (es : List Event) (c : Option ℕ) (r : ℕ) → r ≡ before_next (first_best (λ x y. ltb x y) (candidates t s es c)) → LastFrom t s es c r
unfolding last_of
last_by t s es c r e z p q i = e ∙ (rw (p, q, i) (ap before_next (nearest z t)))
