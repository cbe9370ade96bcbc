-- One more number, where things have numbers from 1 on.
use Rattle.std.proofs.Common.{◌≡◌, ℕ, suc, ◌+◌, List, [], ◌∷◌, ◌++◌, Some, None, Option, sym, arith}
use Rattle.std.proofs.lemmas.List.{append-nil}
use Rattle.tables.specs.Numbered.{alone, numbered}

-- the number k after n, where m stands for k
module _ {X : Type 0} (at : ℕ → Option X) (n k m : ℕ) (next : k ≡ n + 1) (same : m ≡ k) where
  one_more : numbered at m ≡ numbered at n ++ alone (at k)
  unfolding numbered
  one_more = let e : k ≡ suc n = omega arith in rw (same, e)

  pub number_taken : (x : X) (xs : List X) → Some x ≡ at k → xs ≡ numbered at n → xs ++ (x ∷ []) ≡ numbered at m
  number_taken x xs h e = rw (e, one_more, ← h)

  pub number_left : (xs : List X) → None ≡ at k → xs ≡ numbered at n → xs ≡ numbered at m
  number_left xs h e = rw (e, one_more, ← h) (sym (append-nil (numbered at n)))
