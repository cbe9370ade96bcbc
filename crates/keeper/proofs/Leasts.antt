-- What the least later number means, that there is only one, and when two are the same.
use Rattle.std.proofs.Common.{◌≡◌, ℕ, zero, suc, ◌+◌, ◌-◌, ◌<◌, ◌≤◌, Bool, true, false, Some, None, Option, sym, refl, ap, ◌∙◌, subst, inl, inr, arith}
use Rattle.std.proofs.lemmas.Bool.{both_ways, cases_order}
use Rattle.keeper.specs.Least.{least_from, least_later, IsLeast}

module _ (p : ℕ → Bool) where
  -- the numbers from m on, n of them
  abbrev From : ℕ → ℕ → Option ℕ → Type 0
  From m n (Some k) = (m ≤ k) × (k < m + n) × (p k ≡ true) × ((j : ℕ) → m ≤ j → j < k → p j ≡ false)
  From m n None = (j : ℕ) → m ≤ j → j < m + n → p j ≡ false

  -- m itself, or a later one
  split : (m j : ℕ) → m ≤ j → p m ≡ false → (m + 1 ≤ j → p j ≡ false) → p j ≡ false
  split m j h e y =
      elim (cases_order m j) [
        | inl q ↦ subst (λ (i : ℕ). p i ≡ false) q e
        | inr (inl q) ↦ y (omega arith)
        | inr (inr q) ↦ absurd (omega arith)
      ]

  more : (m n : ℕ) (o : Option ℕ) → p m ≡ false → From (m + 1) n o → From m (suc n) o
  more m n (Some k) e (a, b, c, d) = (omega arith, omega arith, c, λ j h l. split m j h e (λ g. d j g l))
  more m n None e h = λ j g l. split m j g e (λ g'. h j g' (omega arith))

  by : (m n : ℕ) (o : Option ℕ) (b : Bool) → p m ≡ b → From (m + 1) n o → From m (suc n) (elim b [ true ↦ Some m | false ↦ o ])
  by m n o true e h = (omega arith, omega arith, e, λ j g l. absurd (omega arith))
  by m n o false e h = more m n o e h

  from : (n m : ℕ) → From m n (least_from p m n)
  unfolding least_from
  from zero m = λ j h l. absurd (omega arith)
  from (suc n) m = by m n (least_from p (m + 1) n) (p m) refl (from n (m + 1))

  later : (t l : ℕ) (o : Option ℕ) → From (t + 1) (l - t) o → IsLeast p t l o
  later t l (Some k) (a, b, c, d) = record { later = omega arith; within = omega arith; holds = c; first = λ j g h. d j (omega arith) h }
  later t l None h = λ k g i. h k (omega arith) (omega arith)

  -- the definition's value is the least
  pub least_is : (t l : ℕ) → IsLeast p t l (least_later p t l)
  unfolding least_later
  least_is t l = later t l (least_from p (t + 1) (l - t)) (from (l - t) (t + 1))

  -- there is only one
  pub least_one : (t l : ℕ) (o o' : Option ℕ) → IsLeast p t l o → IsLeast p t l o' → o ≡ o'
  least_one t l (Some n) (Some m) a b =
      ap Some
      (elim (cases_order n m) [
        | inl q ↦ q
        | inr (inl q) ↦ absurd (both_ways (p n) (b.first n a.later q) a.holds)
        | inr (inr q) ↦ absurd (both_ways (p m) (a.first m b.later q) b.holds)
      ])
  least_one t l (Some n) None a b = absurd (both_ways (p n) (b n a.later a.within) a.holds)
  least_one t l None (Some m) a b = absurd (both_ways (p m) (a m b.later b.within) b.holds)
  least_one t l None None a b = refl

  -- whatever is the least is the definition's value
  pub least_only : (t l : ℕ) (o : Option ℕ) → IsLeast p t l o → o ≡ least_later p t l
  least_only t l o h = least_one t l o (least_later p t l) h (least_is t l)

  -- from a later second on, with none passed
  pub least_onward : (t u l : ℕ) (o : Option ℕ) → t ≤ u → ((k : ℕ) → t < k → k ≤ u → p k ≡ false) → IsLeast p t l o → IsLeast p u l o
  least_onward t u l (Some n) h none a =
      let past : n ≤ u → ⊥ = λ g. both_ways (p n) (none n a.later g) a.holds in
      record { later = omega arith; within = a.within; holds = a.holds; first = λ k g i. a.first k (omega arith) i }
  least_onward t u l None h none a = λ k g i. a k (omega arith) i

  pub later_same : (t u l : ℕ) → t ≤ u → ((k : ℕ) → t < k → k ≤ u → p k ≡ false) → least_later p u l ≡ least_later p t l
  later_same t u l h none = sym (least_only u l (least_later p t l) (least_onward t u l (least_later p t l) h none (least_is t l)))

  -- one step: the next number has it, or has it not, or there is none left
  pub later_hit : (t l : ℕ) → t < l → p (t + 1) ≡ true → least_later p t l ≡ Some (t + 1)
  later_hit t l h e =
      sym (least_only t l (Some (t + 1)) (record { later = omega arith; within = omega arith; holds = e; first = λ k a b. absurd (omega arith) }))

  pub later_miss : (t l : ℕ) → p (t + 1) ≡ false → least_later p t l ≡ least_later p (t + 1) l
  later_miss t l e =
      sym (later_same t (t + 1) l (omega arith) (λ k a b. let q : t + 1 ≡ k = omega arith in subst (λ (i : ℕ). p i ≡ false) q e))

  pub later_end : (t l : ℕ) → l ≤ t → least_later p t l ≡ None
  later_end t l h = sym (least_only t l None (λ k a b. absurd (omega arith)))

-- predicates that agree up to the limit
like : (p q : ℕ → Bool) (t l : ℕ) → ((k : ℕ) → t < k → k ≤ l → p k ≡ q k) → (o : Option ℕ) → IsLeast p t l o → IsLeast q t l o
like p q t l h (Some n) a =
    let b = a.within in
    record { later = a.later; within = b; holds = sym (h n a.later b) ∙ a.holds; first = λ k u v. sym (h k u (omega arith)) ∙ a.first k u v }
like p q t l h None a = λ k u v. sym (h k u v) ∙ a k u v

pub later_like : (p q : ℕ → Bool) (t l : ℕ) → ((k : ℕ) → t < k → k ≤ l → p k ≡ q k) → least_later p t l ≡ least_later q t l
later_like p q t l h = least_only q t l (least_later p t l) (like p q t l h (least_later p t l) (least_is p t l))
