-- The month-length rule of a table of month firsts: one test over the whole table, which antt computes, carried to each entry.
use Rattle.std.proofs.Common.{◌≡◌, ℕ, zero, suc, ◌+◌, ◌<◌, Bool, true, false, T, eqb, List, [], ◌∷◌, length, get_or, ℤ, pos, negsuc, ◌+ℤ◌, sym, ap, ◌∙◌, subst, le_of_suc-le-suc, not-suc-le-zero, add-zero, add-suc, suc-add, zero-add, eqb→eq}
use Rattle.calendar.specs.Months.{month_first_of, length_at, MonthFirsts}

abbrev pub both : Bool → Bool → Bool
both true b = b
both false b = false

both_left : (a b : Bool) → T (both a b) → T a
both_left true b t = tt
both_left false b t = t

both_right : (a b : Bool) → T (both a b) → T b
both_right true b t = t
both_right false b t = absurd t

abbrev pub eq_z : ℤ → ℤ → Bool
eq_z (pos a) (pos b) = eqb a b
eq_z (negsuc a) (negsuc b) = eqb a b
eq_z (pos a) (negsuc b) = false
eq_z (negsuc a) (pos b) = false

eq_z→eq : (a b : ℤ) → T (eq_z a b) → a ≡ b
eq_z→eq (pos a) (pos b) t = ap pos (eqb→eq a b t)
eq_z→eq (negsuc a) (negsuc b) t = ap negsuc (eqb→eq a b t)
eq_z→eq (pos a) (negsuc b) t = absurd t
eq_z→eq (negsuc a) (pos b) t = absurd t

-- the list goes on from z, the first of the month at k, by the lengths of the months
abbrev pub runs : ℕ → ℤ → List ℤ → Bool
runs k z [] = true
runs k z (x ∷ xs) = both (eq_z x z) (runs (suc k) (z +ℤ pos (length_at k)) xs)

from : (xs : List ℤ) (k : ℕ) → T (runs k (month_first_of k) xs) → (j : ℕ) → j < length xs → get_or xs j (pos 0) ≡ month_first_of (k + j)
unfolding month_first_of
from [] k t j h = absurd (not-suc-le-zero h)
from (x ∷ xs) k t zero h = eq_z→eq x (month_first_of k) (both_left (eq_z x (month_first_of k)) (runs (suc k) (month_first_of (suc k)) xs) t) ∙ ap month_first_of (sym (add-zero k))
from (x ∷ xs) k t (suc j) h =
    from xs (suc k) (both_right (eq_z x (month_first_of k)) (runs (suc k) (month_first_of (suc k)) xs) t) j (le_of_suc-le-suc h)
    ∙ ap month_first_of (suc-add k j ∙ sym (add-suc k j))

pub at : (xs : List ℤ) → T (runs 0 (negsuc 30) xs) → (j : ℕ) → j < length xs → get_or xs j (pos 0) ≡ month_first_of j
unfolding month_first_of
at xs t j h = from xs 0 t j h ∙ ap month_first_of (zero-add j)

pub rule : (xs : List ℤ) → length xs ≡ 1636 → T (runs 0 (negsuc 30) xs) → MonthFirsts xs
rule xs n t = record { size = n; entry = λ k h. at xs t k (subst (λ (m : ℕ). k < m) (sym n) h) }
