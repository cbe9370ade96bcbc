-- A loop that offers each thing of a list that passes, at its own place.
use Rattle.std.proofs.Common.{◌≡◌, ℕ, ◌+◌, ◌<◌, ◌≤◌, Bool, true, false, cond, List, [], ◌∷◌, ◌++◌, map, length, get_or, take, Some, None, filter, Option, sym, refl, ap, ◌∙◌}
use Rattle.std.specs.Ordering.{is_lt}
use Rattle.std.specs.declared.cmp.Ordering.{Ordering}
use Rattle.std.proofs.lemmas.List.{map-append, append-nil, take_all}
use Rattle.std.proofs.lemmas.List.Elements.{filter_more}
use Rattle.std.specs.Option.{option_map}
use Rattle.keeper.specs.declared.offer.Offer.{Offer}
use Rattle.keeper.specs.Best.{first_best}
use Rattle.keeper.specs.Offers.{ranked, place_of, own}
use Rattle.keeper.proofs.Bests.{best_map}

-- where each thing is offered as its own place, the best place is the first best thing
module _ {X K : Type 0} (cmp : K → K → Ordering) (key : X → K) where
  back : (o : Option X) → place_of (option_map (own key) o) ≡ o
  back (Some x) = refl
  back None = refl

  pub best_own : (xs : List X) → place_of (first_best (ranked cmp) (map (own key) xs)) ≡ first_best (λ x y. is_lt (cmp (key x) (key y))) xs
  best_own xs = ap place_of (best_map (own key) (ranked cmp) xs) ∙ back (first_best (λ x y. is_lt (cmp (key x) (key y))) xs)

module _ {X K : Type 0} (cmp : K → K → Ordering) (key : X → K) (test : X → Bool) (xs : List X) where
  -- what is offered of the first i things
  abbrev pub offered : ℕ → List (Offer K X)
  offered i = map (own key) (filter test (take i xs))

  more : (i : ℕ) (x : X) (b : Bool) → i < length xs → x ≡ get_or xs i x → test x ≡ b → offered (i + 1) ≡ offered i ++ map (own key) (cond b (x ∷ []) [])
  more i x b h is e =
      ap (map (own key)) (filter_more test xs i x h ∙ rw (← is, e) refl)
      ∙ map-append (own key) (filter test (take i xs)) (cond b (x ∷ []) [])

  -- the first best of these
  abbrev pub Kept : ℕ → Option (Offer K X) → Type 0
  Kept i best = best ≡ first_best (ranked cmp) (offered i)

  pub kept_taken : (i : ℕ) (x : X) (k : K) (best : Option (Offer K X)) → i < length xs → x ≡ get_or xs i x → test x ≡ true → k ≡ key x
      → best ≡ first_best (ranked cmp) (offered i ++ (record { rank = k; place = x } ∷ [])) → Kept (i + 1) best
  kept_taken i x k best h is e r b = b ∙ ap (first_best (ranked cmp)) (ap (λ (j : K). offered i ++ (record { rank = j; place = x } ∷ [])) r ∙ sym (more i x true h is e))

  pub kept_left : (i : ℕ) (x : X) (best : Option (Offer K X)) → i < length xs → x ≡ get_or xs i x → test x ≡ false → Kept i best → Kept (i + 1) best
  kept_left i x best h is e b = b ∙ ap (first_best (ranked cmp)) (sym (more i x false h is e ∙ append-nil (offered i)))

  -- in the end the best place is the first best thing
  pub kept_all : (i : ℕ) (best : Option (Offer K X)) → length xs ≤ i → Kept i best → place_of best ≡ first_best (λ x y. is_lt (cmp (key x) (key y))) (filter test xs)
  kept_all i best h b =
      ap place_of (b ∙ ap (λ (ys : List X). first_best (ranked cmp) (map (own key) (filter test ys))) (take_all i xs h)) ∙ best_own cmp key (filter test xs)
