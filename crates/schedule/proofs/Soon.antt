-- The keeper of the soonest second, over the day's events.
use Rattle.std.proofs.Common.{◌≡◌, ℕ, ◌+◌, ◌-◌, ◌≤◌, ltb, List, [], ◌++◌, map, length, take, Option, sym, ap, ◌∙◌}
use Rattle.std.specs.List.{flat_map}
use Rattle.std.proofs.lemmas.List.{append-nil, take_all}
use Rattle.std.specs.Ordering.{nat_cmp}
use Rattle.keeper.specs.declared.offer.Offer.{Offer}
use Rattle.keeper.specs.Best.{first_best}
use Rattle.keeper.specs.Offers.{own, place_of, ranked}
use Rattle.keeper.proofs.Offering.{best_own}
use Rattle.keeper.proofs.Orders.{numbers}
use Rattle.schedule.specs.Candidates.{up_to, ahead}
use Rattle.schedule.specs.Soonest.{SoonestOf}
use Rattle.tables.specs.Numbered.{alone}
use Rattle.tables.specs.declared.event.Event.{Event}

-- the loop over the day's events: its start and its end
pub begin : (t s n : ℕ) (midnight : Option ℕ) (kept : Option (Offer ℕ ℕ)) → n ≡ 86400 - s → alone midnight ≡ up_to (t + n) → SoonestOf (alone midnight) kept
    → SoonestOf (up_to (t + (86400 - s)) ++ []) kept
begin t s n midnight kept e m k =
    k ∙ ap (λ (xs : List ℕ). first_best (ranked nat_cmp) (map (own (λ n. n)) xs)) (m ∙ ap (λ (m : ℕ). up_to (t + m)) e ∙ sym (append-nil (up_to (t + (86400 - s)))))

pub end : (ms : List ℕ) (t s i : ℕ) (es : List Event) (kept : Option (Offer ℕ ℕ)) → length es ≤ i
    → SoonestOf (ms ++ flat_map (ahead t s) (take i es)) kept → SoonestOf (ms ++ flat_map (ahead t s) es) kept
end ms t s i es kept h k = k ∙ ap (λ (xs : List Event). first_best (ranked nat_cmp) (map (own (λ n. n)) (ms ++ flat_map (ahead t s) xs))) (take_all i es h)

-- what is kept in the end
pub soonest_is : (xs : List ℕ) (kept : Option (Offer ℕ ℕ)) → SoonestOf xs kept → place_of kept ≡ first_best (λ x y. ltb x y) xs
soonest_is xs kept k = ap place_of k ∙ (best_own nat_cmp (λ n. n) xs ∙ (λ j. first_best (λ x y. numbers x y j) xs))
