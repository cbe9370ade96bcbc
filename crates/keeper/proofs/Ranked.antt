-- A total order ranks the offers, and the keeper's step.
use Rattle.std.proofs.Common.{◌≡◌, List, [], ◌∷◌, ◌++◌, Option, ap, ◌∙◌}
use Rattle.std.specs.declared.cmp.Ordering.{Ordering}
use Rattle.std.specs.Cmp.{IsTotalOrder}
use Rattle.std.proofs.lemmas.List.MinMax.{ranks_by}
use Rattle.keeper.specs.declared.offer.Offer.{Offer}
use Rattle.keeper.specs.Best.{first_best, IsFirstBest, keep_one}
use Rattle.keeper.specs.Offers.{ranked}
use Rattle.keeper.proofs.Bests.{best_is, one_more}

module _ {K P : Type 0} (cmp : K → K → Ordering) (o : IsTotalOrder cmp) where
  -- one more is kept
  pub kept : (k l : Option (Offer K P)) (x : Offer K P) → l ≡ keep_one (ranked cmp) k x
      → (xs : List (Offer K P)) → k ≡ first_best (ranked cmp) xs → l ≡ first_best (ranked cmp) (xs ++ (x ∷ []))
  kept k l x e xs h = e ∙ (ap (λ (j : Option (Offer K P)). keep_one (ranked cmp) j x) h ∙ one_more (ranked cmp) (ranks_by o (λ (y : Offer K P). y.rank)) xs x)

  pub means : (k : Option (Offer K P)) (xs : List (Offer K P)) → k ≡ first_best (ranked cmp) xs → IsFirstBest (ranked cmp) xs k
  means k xs h = rw h (best_is (ranked cmp) (ranks_by o (λ (y : Offer K P). y.rank)) xs)
