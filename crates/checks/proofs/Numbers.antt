-- What a chain over numbers finds, said of their list.
use Rattle.std.proofs.Common.{◌≡◌, ℕ, ◌+◌, ◌-◌, ◌<◌, ◌≤◌, true, false, suc, zero, List, [], ◌∷◌, Some, None, Option, sym, refl, ap, subst, ◌∙◌, ⊎_elim, arith}
use Rattle.std.proofs.iter.Yields.{nat_range_steps}
use Rattle.std.proofs.iter.runs.Sources.{nat_range_inclusive_steps, inclusive_listed}
use Rattle.std.proofs.lemmas.Iterator.{YieldsList, YieldsList-from_range}
use Rattle.std.proofs.lemmas.Bool.{cases_eq}
use Rattle.std.proofs.lemmas.Option.{same_Some}
use Rattle.std.specs.Fn.{Mut, Called}
use Rattle.std.specs.Iterator.Runs.{Run, SomeRun, AllItemsGive, IsFirstToGive, CallKeepsClosure}
use Rattle.std.specs.List.{range_with_len}
use Rattle.std.specs.Option.{MatchOption, IfSome, IsSomeAnd, option_map, option_or}
use Rattle.std.specs.Range.{range_inclusive_start, range_inclusive_end, range_inclusive_exhausted}
use Rattle.std.specs.declared.ops.Range.{Range}
use Rattle.std.specs.declared.ops.RangeInclusive.{RangeInclusive}
use Rattle.layout.proofs.Ranges.{inclusive as list_of_range}
use Rattle.checks.specs.Words.{numbers}

-- a fresh range of a to b yields those numbers
pub inclusive : {s : RangeInclusive ℕ} (a b n : ℕ) → range_inclusive_start s ≡ a → range_inclusive_end s ≡ b → range_inclusive_exhausted s ≡ false → b + 1 - a ≡ n
    → YieldsList nat_range_inclusive_steps (λ x. x) s (numbers a n)
unfolding numbers
inclusive a b n start end fresh e = list_of_range a b n start end fresh e

pub exclusive : {s : Range ℕ} (a b n : ℕ) → s ≡ record { start = a; end = b } → b - a ≡ n → YieldsList nat_range_steps (λ x. x) s (numbers a n)
unfolding numbers
exclusive a b n e m = YieldsList-from_range a b n e m

-- the first that is found at one of some numbers
abbrev pub first_some : {Y : Type 0} → (ℕ → Option Y) → List ℕ → Option Y
first_some h [] = None
first_some h (n ∷ ns) = option_or (h n) (first_some h ns)

module _ {Y : Type 0} (h : ℕ → Option Y) where
  first_none : (a n : ℕ) → ((k : ℕ) → a ≤ k → k < a + n → None ≡ h k) → None ≡ first_some h (range_with_len a n)
  first_none a zero f = refl
  first_none a (suc n) f =
      rw (← f a (omega arith) (omega arith)) (first_none (a + 1) n (λ k l m. f k (omega arith) (omega arith)))

  first_at : (y : Y) (a n i : ℕ) → a ≤ i → i < a + n → Some y ≡ h i → ((k : ℕ) → a ≤ k → k < i → None ≡ h k) → Some y ≡ first_some h (range_with_len a n)
  first_at y a zero i l m e f = absurd (omega arith)
  first_at y a (suc n) i l m e f =
      ⊎_elim
      (λ (same : i ≡ a). rw (← (e ∙ ap h same)) refl)
      (λ (other : i ≡ a → ⊥). rw (← f a (omega arith) (omega arith)) (first_at y (a + 1) n i (omega arith) (omega arith) e (λ k p q. f k (omega arith) q)))
      (cases_eq i a)

-- `find_map` over a fresh range of a to b, whose closure computes h
module _ {F Y : Type 0} (g : Mut F (ℕ × Unit {0}) (Option Y)) (f : F) (h : ℕ → Option Y) (computes : (x : ℕ × Unit {0}) (o : Option Y) (q : F) → Called g f x o q → (q ≡ f) × (o ≡ h x.0)) where
  gave : (o : Option ℕ) (k : ℕ) (r : Option Y) → option_map (λ y. y) o ≡ Some k → IfSome o (λ x. Called g f (x, tt) r f) → r ≡ h k
  gave None k r e c = cc
  gave (Some x) k r e c = (computes (x, tt) r f c).1 ∙ ap h (same_Some x k e)

  if_there : (o : Option ℕ) (P : ℕ → Type 0) → IsSomeAnd o P → IfSome o P
  if_there None P h = absurd h
  if_there (Some x) P h = h

  module _ (p : Run nat_range_inclusive_steps) (a n : ℕ) (starts : range_inclusive_start p.from ≡ a) (ends : range_inclusive_end p.from + 1 ≡ a + n) (fresh : range_inclusive_exhausted p.from ≡ false) where
    keeps : CallKeepsClosure g f
    keeps x r q c = (computes x r q c).0

    told : (k : ℕ) (r : Option Y) → a ≤ k → k < a + p.len → IfSome (p.at (k - a)) (λ x. Called g f (x, tt) r f) → r ≡ h k
    told k r l m c =
        let d = inclusive_listed p p.seen in
        let e : d.0 + (k - a) ≡ k = omega (arith, d.2) in
        gave (p.at (k - a)) k r ((d.4 fresh).0.3 (k - a) (omega arith) ∙ ap Some e) c

    found : (r : Option Y) → MatchOption r ((p.whole ≡ true) × AllItemsGive p g f None) (λ y. (i : ℕ) × (i < p.len) × (p.len ≡ i + 1) × IsFirstToGive p g f (Some y) None i) → r ≡ first_some h (range_with_len a n)
    found None m =
        let d = inclusive_listed p p.seen in
        let all : p.len ≡ n = omega (arith, d.2, d.3, (d.4 fresh).0.1 m.0) in
        first_none h a n (λ k l u. told k None l (omega arith) (m.1 keeps (k - a)))
    found (Some y) m =
        let d = inclusive_listed p p.seen in
        let most : p.len ≤ n = omega (arith, d.2, d.3, (d.4 fresh).0.0) in
        let i = m.0 in
        let within : i < p.len = m.1 in
        let at = m.3 keeps in
        let place : a + i - a ≡ i = omega arith in
        first_at h y a n (a + i) (omega arith) (omega arith)
        (told (a + i) (Some y) (omega arith) (omega arith) (subst (λ j. IfSome (p.at j) (λ x. Called g f (x, tt) (Some y) f)) (sym place) (if_there (p.at i) _ at.0)))
        (λ k l u. told k None l (omega arith) (if_there (p.at (k - a)) _ (at.1 (k - a) (omega arith))))

  pub found_from_range : {s : RangeInclusive ℕ} (a b n : ℕ) (r : Option Y) → SomeRun nat_range_inclusive_steps s (λ p. MatchOption r ((p.whole ≡ true) × AllItemsGive p g f None) (λ y. (i : ℕ) × (i < p.len) × (p.len ≡ i + 1) × IsFirstToGive p g f (Some y) None i))
      → range_inclusive_start s ≡ a → range_inclusive_end s ≡ b → range_inclusive_exhausted s ≡ false → b + 1 ≡ a + n
      → r ≡ first_some h (numbers a n)
  unfolding numbers
  found_from_range a b n r d ea eb ex e =
      let p = d.0 in
      let ends = ap range_inclusive_end d.1 in
      found p a n (ap range_inclusive_start d.1 ∙ ea) (omega arith) (ap range_inclusive_exhausted d.1 ∙ ex) r d.2
