-- An answer that stays up to n and is another at n next changes at n.
use Rattle.std.proofs.Common.{◌≡◌, ℕ, ◌-◌, ◌<◌, ◌≤◌, Bool, true, false, not, Some, None, sym, refl, ap, ◌∙◌, arith}
use Rattle.keeper.specs.Least.{least_later, differs, changes}
use Rattle.keeper.proofs.Leasts.{least_only}

same_answers : (a b : Bool) → a ≡ b → differs a b ≡ false
same_answers true true e = refl
same_answers false false e = refl
same_answers true false e = e
same_answers false true e = sym e

other_answers : (a b : Bool) → a ≡ not b → differs a b ≡ true
other_answers true true e = sym e
other_answers false false e = e
other_answers true false e = refl
other_answers false true e = refl

module _ (p : ℕ → Bool) (s n limit : ℕ) (stays : (m : ℕ) → s ≤ m → m < n → p m ≡ p s) where
  quiet : (m : ℕ) → s < m → m < n → changes p m ≡ false
  quiet m l u = same_answers (p m) (p (m - 1)) (stays m (omega arith) u ∙ sym (stays (m - 1) (omega arith) (omega arith)))

  pub next_at : s < n → n ≤ limit → p n ≡ not (p s) → least_later (changes p) s limit ≡ Some n
  next_at later h turns =
      sym (least_only (changes p) s limit (Some n) (record {
        later = later;
        within = h;
        holds = other_answers (p n) (p (n - 1)) (turns ∙ ap not (sym (stays (n - 1) (omega arith) (omega arith))));
        first = quiet;
      }))

  pub next_past : limit < n → least_later (changes p) s limit ≡ None
  next_past h = sym (least_only (changes p) s limit None (λ m l u. quiet m l (omega arith)))
