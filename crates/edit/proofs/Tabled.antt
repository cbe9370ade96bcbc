-- The tables as they would stand after a commit.
use Rattle.std.proofs.Common.{◌≡◌, ℕ, ◌<◌, ◌≤◌, List, [], ◌∷◌, length, get_or, set, suc, sym, refl, ap, ◌∙◌, ⊎_elim, arith, lit<, length-set}
use Rattle.std.proofs.lemmas.List.{get_or_past, get_or-set_same, get_or-set_other, set_past}
use Rattle.std.proofs.lemmas.Bool.{cases_lt, cases_eq}
use Rattle.checks.specs.Words.{reading}
use Rattle.store.specs.declared.entry.Entry.{Entry}
use Rattle.layout.specs.Layout.{width}
use Rattle.store.specs.Entries.{puts_cells}
use Rattle.store.proofs.Puts.{put_fits}
use native.Mathlib.Nat.{pow-le-pow_right}
use Rattle.edit.specs.Drafts.{entry, overwritten, Fitting}

-- two lists that are equal up to a place past which neither has more read the same
pub same_reading : (xs ys : List ℕ) (n : ℕ) → length xs ≤ n → length ys ≤ n → ((k : ℕ) → k < n → get_or xs k 0 ≡ get_or ys k 0) → reading xs ≡ reading ys
same_reading xs ys n a b h =
    let each : (k : ℕ) → get_or xs k 0 ≡ get_or ys k 0 = λ k.
    ⊎_elim (λ (l : k < n). h k l) (λ (l : n ≤ k). get_or_past xs k 0 (omega arith) ∙ sym (get_or_past ys k 0 (omega arith))) (cases_lt k n)
    in λ i k. each k i

pub overwritten_length : (cs : List ℕ) (es : List Entry) → length (overwritten cs es) ≡ length cs
overwritten_length cs [] = refl
overwritten_length cs (e ∷ es) = overwritten_length (set cs e.cell e.value) es ∙ length-set cs e.cell e.value

-- one entry written into both
pub set_reading : (t xs : List ℕ) (c v : ℕ) → c < length t → c < length xs → ((k : ℕ) → get_or t k 0 ≡ get_or xs k 0) → (k : ℕ) → get_or (set t c v) k 0 ≡ get_or (set xs c v) k 0
set_reading t xs c v a b h k =
    ⊎_elim
    (λ (same : k ≡ c). ap (λ (j : ℕ). get_or (set t c v) j 0) same ∙ get_or-set_same t c v 0 a ∙ sym (get_or-set_same xs c v 0 b) ∙ sym (ap (λ (j : ℕ). get_or (set xs c v) j 0) same))
    (λ (other : k ≡ c → ⊥). get_or-set_other t c k v 0 other ∙ h k ∙ sym (get_or-set_other xs c k v 0 other))
    (cases_eq k c)

-- one past the end of the second is written into neither
pub skip_reading : (t xs : List ℕ) (c v : ℕ) → length xs ≤ c → ((k : ℕ) → get_or t k 0 ≡ get_or xs k 0) → (k : ℕ) → get_or t k 0 ≡ get_or (set xs c v) k 0
skip_reading t xs c v b h k = h k ∙ sym (ap (λ (ys : List ℕ). get_or ys k 0) (set_past xs c v b))

-- entries that fit are all put
pub puts_fit : (w : ℕ → ℕ) → ((c : ℕ) → width c ≤ w c) → (cs : List ℕ) (es : List Entry) → ((k : ℕ) → k < length es → Fitting (get_or es k (entry 0 0))) → puts_cells cs w es ≡ overwritten cs es
puts_fit w wide cs [] fits = refl
puts_fit w wide cs (e ∷ es) fits =
    let one = fits 0 (omega arith) in
    let more = pow-le-pow_right {n = 256} (lit< tt) (wide e.cell) in
    ap (λ (xs : List ℕ). puts_cells xs w es) (put_fits cs w e.cell e.value (omega arith)) ∙ puts_fit w wide (set cs e.cell e.value) es (λ k h. fits (suc k) (omega arith))
