-- What a range of numbers with both its ends yields, and what `array::from_fn` makes, said of the numbers' list.
use Rattle.std.proofs.Common.{◌≡◌, ℕ, zero, suc, ◌+◌, ◌-◌, ◌<◌, ◌≤◌, Bool, true, false, List, [], ◌∷◌, map, get_or, Some, sym, refl, ap, ap₂, subst, ◌∙◌, ⊎_elim, arith}
use Rattle.std.proofs.iter.runs.Sources.{nat_range_inclusive_steps}
use Rattle.std.proofs.lemmas.Iterator.{YieldsList}
use Rattle.std.proofs.lemmas.Iterator.Consumers.{YieldsList-from_shown}
use Rattle.std.proofs.lemmas.List.FromFn.{length-range_with_len, fill_by_all}
use Rattle.std.proofs.lemmas.List.{length-map}
use Rattle.std.proofs.Math.ListN.{get_or-map}
use Rattle.std.proofs.lemmas.Bool.{cases_eq}
use Rattle.std.specs.Array.{IsFromFnResult, IsFromFnResultFrom}
use Rattle.std.specs.Fn.{Mut, Called}
use Rattle.std.specs.List.{range_with_len}
use Rattle.std.specs.Range.{range_inclusive_start, range_inclusive_end, range_inclusive_exhausted, range_inclusive_len}
use Rattle.std.specs.declared.ops.RangeInclusive.{RangeInclusive}

-- how many numbers are left of a range
abbrev left : RangeInclusive ℕ → ℕ
left s = range_inclusive_len (λ x y. y - x) (range_inclusive_start s) (range_inclusive_end s) (range_inclusive_exhausted s)

rest : (t : RangeInclusive ℕ) (m : ℕ) (b : Bool) → range_inclusive_exhausted t ≡ b → (range_inclusive_exhausted t ≡ false → range_inclusive_start t ≡ m) → range_with_len m (left t) ≡ range_with_len (range_inclusive_start t) (left t)
rest t m true e h =
    let z : left t ≡ 0 = ap (range_inclusive_len (λ x y. y - x) (range_inclusive_start t) (range_inclusive_end t)) e in
    ap (range_with_len m) z ∙ sym (ap (range_with_len (range_inclusive_start t)) z)
rest t m false e h = ap (λ (k : ℕ). range_with_len k (left t)) (sym (h e))

go : (s : RangeInclusive ℕ) (x : ℕ) (t : RangeInclusive ℕ) → nat_range_inclusive_steps s (Some x) t → range_with_len (range_inclusive_start s) (left s) ≡ x ∷ range_with_len (range_inclusive_start t) (left t)
go s x t h =
    let n : left s ≡ suc (left t) = omega (arith, h.1.1) in
    ap (range_with_len (range_inclusive_start s)) n
    ∙ ap₂ ◌∷◌ (sym h.1.0) (rest t (range_inclusive_start s + 1) (range_inclusive_exhausted t) refl h.1.2)

-- a fresh range of a to b yields those numbers
pub inclusive : {s : RangeInclusive ℕ} (a b n : ℕ) → range_inclusive_start s ≡ a → range_inclusive_end s ≡ b → range_inclusive_exhausted s ≡ false → b + 1 - a ≡ n
    → YieldsList nat_range_inclusive_steps (λ x. x) s (range_with_len a n)
inclusive {s} a b n ea eb ex e =
    let z : left s ≡ range_inclusive_end s + 1 - range_inclusive_start s = omega (arith, ap (range_inclusive_len (λ x y. y - x) (range_inclusive_start s) (range_inclusive_end s)) ex) in
    let many : left s ≡ n = omega arith in
    subst (YieldsList nat_range_inclusive_steps (λ x. x) s) (ap₂ range_with_len ea many)
    (YieldsList-from_shown nat_range_inclusive_steps (λ x. x) (λ r. range_with_len (range_inclusive_start r) (left r)) (λ r t h. length-range_with_len (range_inclusive_start r) (left r) ∙ h.1.0) go s)

-- `array::from_fn`, whose closure computes h, as v reads what it makes
module _ {F B C : Type 0} (g : Mut F (ℕ × Unit {0}) B) (f : F) (v : B → C) (h : ℕ → C) (computes : (x : ℕ × Unit {0}) (y : B) (q : F) → Called g f x y q → (q ≡ f) × (v y ≡ h x.0)) where
  pub made_at : (ys : List B) (a n : ℕ) → IsFromFnResultFrom g f ys a n → (k : ℕ) (d : B) → a ≤ k → k < a + n → v (get_or ys k d) ≡ h k
  made_at ys a zero e k d l m = absurd (omega arith)
  made_at ys a (suc n) e k d l m =
      let told = computes (a, tt) e.1 e.0 e.3 in
      ⊎_elim
      (λ (same : k ≡ a). ap (λ (j : ℕ). v (get_or ys j d)) same ∙ ap v (e.2.1 d) ∙ told.1 ∙ sym (ap h same))
      (λ (other : k ≡ a → ⊥). made_at ys (a + 1) n (subst (λ p. IsFromFnResultFrom g p ys (a + 1) n) told.0 e.4) k d (omega arith) (omega arith))
      (cases_eq k a)

  pub made : (ys : List B) (n : ℕ) → IsFromFnResult g f ys n → map v ys ≡ map h (range_with_len 0 n)
  made [] zero e = refl
  made (y ∷ ys) zero e = absurd (omega (arith, e.long))
  made ys (suc n) e =
      let d : B = e.each.1 in
      fill_by_all h (map v ys) (suc n) (v d) (simp length-map e.long) (λ k l. get_or-map v ys k d ∙ made_at ys 0 (suc n) e.each k d (omega arith) (omega arith))
