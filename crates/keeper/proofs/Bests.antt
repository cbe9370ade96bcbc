-- What the first best of a list means, that there is only one, and one more in the list.
use Rattle.std.proofs.Common.{◌≡◌, ℕ, zero, suc, ◌+◌, ◌<◌, Bool, true, false, cond, ◌⊎◌, List, [], ◌∷◌, ◌++◌, map, length, get_or, Some, None, Option, sym, refl, ap, ◌∙◌, subst, inl, inr, arith, length-append}
use lib.Seq.{get_or-append_seam}
use Rattle.std.specs.Cmp.{IsStrictWeakOrder}
use Rattle.std.specs.List.{IsFirstBest as FirstBest, best_of}
use Rattle.std.proofs.lemmas.List.MinMax.{IsFirstBest-from_best_of}
use Rattle.std.proofs.lemmas.List.{get_or_default, get_or_append_left}
use Rattle.std.proofs.lemmas.Bool.{both_ways, or_from, or_left, or_right, cases_lt}
use Rattle.std.specs.Option.{option_map}
use Rattle.keeper.specs.Best.{beaten, first_unbeaten, first_best, Best, IsFirstBest, keep_one}

module _ {X : Type 0} (beats : X → X → Bool) where
  -- beaten by none, and by one
  not_beaten : (xs : List X) (x d : X) → ((k : ℕ) → k < length xs → beats (get_or xs k d) x ≡ false) → beaten beats xs x ≡ false
  unfolding beaten
  not_beaten [] x d h = refl
  not_beaten (y ∷ ys) x d h = or_from (beats y x) _ (h 0 (omega arith)) (not_beaten ys x d (λ k l. h (suc k) (omega arith)))

  is_beaten : (xs : List X) (x d : X) (k : ℕ) → k < length xs → beats (get_or xs k d) x ≡ true → beaten beats xs x ≡ true
  unfolding beaten
  is_beaten [] x d k l h = absurd (omega arith)
  is_beaten (y ∷ ys) x d zero l h = or_left (beats y x) _ h
  is_beaten (y ∷ ys) x d (suc k) l h = or_right (beats y x) _ (is_beaten ys x d k (omega arith) h)

  -- the first unbeaten of ys is where all before it are beaten
  reached : (xs ys : List X) (d : X) (b : ℕ) → b < length ys → beaten beats xs (get_or ys b d) ≡ false
      → ((k : ℕ) → k < b → beaten beats xs (get_or ys k d) ≡ true) → first_unbeaten beats xs ys ≡ Some (get_or ys b d)
  unfolding first_unbeaten
  reached xs [] d b l h n = absurd (omega arith)
  reached xs (y ∷ ys) d zero l h n = rw h
  reached xs (y ∷ ys) d (suc b) l h n = rw (n 0 (omega arith)) (reached xs ys d b (omega arith) h (λ k g. n (suc k) (omega arith)))

  -- whatever has the meaning is the definition's value
  pub best_only : (xs : List X) (o : Option X) → IsFirstBest beats xs o → o ≡ first_best beats xs
  unfolding first_best first_unbeaten
  best_only xs (Some x) h =
      let e = h.is in
      sym (reached xs xs x h.place h.within
      (not_beaten xs (get_or xs h.place x) x (λ k l. subst (λ (y : X). beats (get_or xs k x) y ≡ false) e (h.best k l)))
      (λ k g. is_beaten xs (get_or xs k x) x h.place h.within (subst (λ (y : X). beats y (get_or xs k x) ≡ true) e (h.first k g)))
      ∙ ap Some (sym e))
  best_only xs None h = rw h

-- one more in the list
module _ {X : Type 0} (beats : X → X → Bool) (order : IsStrictWeakOrder beats) where
  -- from the fold over the list
  made : (x : X) (xs : List X) (y : X) (b : ℕ) → FirstBest beats (x ∷ xs) (length (x ∷ xs)) b → y ≡ get_or (x ∷ xs) b x → Best beats (x ∷ xs) y
  made x xs y b (h, p, q) e =
      let s : y ≡ get_or (x ∷ xs) b y = e ∙ get_or_default (x ∷ xs) b x y h in
      record {
        place = b;
        within = h;
        is = s;
        best = λ k l. subst (λ (z : X). beats (get_or (x ∷ xs) k y) z ≡ false) (sym s) (p k y l);
        first = λ k l. subst (λ (z : X). beats z (get_or (x ∷ xs) k y) ≡ true) (sym s) (q k y l);
      }

  some_best : (xs : List X) → (o : Option X) × IsFirstBest beats xs o
  some_best [] = (None, refl)
  some_best (x ∷ xs) =
      let (b, f, e) = IsFirstBest-from_best_of order x xs in
      (Some (best_of beats x xs), made x xs (best_of beats x xs) b f (sym e))

  -- the definition's value has the meaning
  pub best_is : (xs : List X) → IsFirstBest beats xs (first_best beats xs)
  best_is xs =
      let (o, h) = some_best xs in
      subst (IsFirstBest beats xs) (best_only beats xs o h) h

  -- of one more, at its place or before it
  split : (xs : List X) (x d : X) (k : ℕ) → k < length (xs ++ (x ∷ [])) → (k < length xs) ⊎ (get_or (xs ++ (x ∷ [])) k d ≡ x)
  split xs x d k l =
      let n : length (xs ++ (x ∷ [])) ≡ length xs + 1 = length-append xs (x ∷ []) in
      elim (cases_lt k (length xs)) [
        | inl q ↦ inl q
        | inr q ↦ let e : k ≡ length xs = omega arith in inr (ap (λ (j : ℕ). get_or (xs ++ (x ∷ [])) j d) e ∙ get_or-append_seam xs x [] d)
      ]

  -- the old one stays
  stays : (xs : List X) (x b : X) → Best beats xs b → beats x b ≡ false → Best beats (xs ++ (x ∷ [])) b
  stays xs x b h e =
      let n : length (xs ++ (x ∷ [])) ≡ length xs + 1 = length-append xs (x ∷ []) in
      let w = h.within in
      record {
        place = h.place;
        within = omega arith;
        is = h.is ∙ sym (get_or_append_left xs (x ∷ []) b h.place w);
        best = λ k l.
            elim (split xs x b k l) [
              | inl q ↦ rw (get_or_append_left xs (x ∷ []) b k q) (h.best k q)
              | inr q ↦ rw q e
            ];
        first = λ k l. let q : k < length xs = omega arith in rw (get_or_append_left xs (x ∷ []) b k q) (h.first k l);
      }

  -- what beats the best beats all
  past : (x b y : X) → beats x b ≡ true → beats y b ≡ false → (c : Bool) → beats x y ≡ c → c ≡ true
  past x b y e f true g = refl
  past x b y e f false g = absurd (both_ways (beats x b) (order.chain x y b g f) e)

  takes : (xs : List X) (x b : X) → Best beats xs b → beats x b ≡ true → Best beats (xs ++ (x ∷ [])) x
  takes xs x b h e =
      let n : length (xs ++ (x ∷ [])) ≡ length xs + 1 = length-append xs (x ∷ []) in
      let over : (k : ℕ) → k < length xs → beats x (get_or xs k x) ≡ true = λ k q.
      past x b (get_or xs k x) e (subst (λ (y : X). beats y b ≡ false) (get_or_default xs k b x q) (h.best k q)) (beats x (get_or xs k x)) refl in
      record {
        place = length xs;
        within = omega arith;
        is = sym (get_or-append_seam xs x [] x);
        best = λ k l.
            elim (split xs x x k l) [
              | inl q ↦ rw (get_or_append_left xs (x ∷ []) x k q) (order.one_way x (get_or xs k x) (over k q))
              | inr q ↦ rw q (same x (beats x x) refl)
            ];
        first = λ k l. rw (get_or_append_left xs (x ∷ []) x k l) (over k l);
      }
    where
      same : (y : X) (c : Bool) → beats y y ≡ c → beats y y ≡ false
      same y true f = order.one_way y y f
      same y false f = f

  alone : (xs : List X) (x : X) → xs ≡ [] → Best beats (xs ++ (x ∷ [])) x
  unfolding some_best
  alone xs x e = rw e (some_best (x ∷ [])).1

  one_by : (xs : List X) (x b : X) (w : Bool) → beats x b ≡ w → Best beats xs b → IsFirstBest beats (xs ++ (x ∷ [])) (cond w (Some x) (Some b))
  one_by xs x b true e h = takes xs x b h e
  one_by xs x b false e h = stays xs x b h e

  keeps : (xs : List X) (x : X) (o : Option X) → IsFirstBest beats xs o → IsFirstBest beats (xs ++ (x ∷ [])) (keep_one beats o x)
  keeps xs x (Some b) h = one_by xs x b (beats x b) refl h
  keeps xs x None h = alone xs x h

  pub one_more : (xs : List X) (x : X) → keep_one beats (first_best beats xs) x ≡ first_best beats (xs ++ (x ∷ []))
  one_more xs x = best_only beats (xs ++ (x ∷ [])) (keep_one beats (first_best beats xs) x) (keeps xs x (first_best beats xs) (best_is xs))

-- the first best of a list's images
module _ {X Y : Type 0} (f : X → Y) (beats : Y → Y → Bool) where
  beaten_map : (xs : List X) (x : X) → beaten beats (map f xs) (f x) ≡ beaten (λ a b. beats (f a) (f b)) xs x
  unfolding beaten
  beaten_map [] x = refl
  beaten_map (y ∷ ys) x = rw (beaten_map ys x)

  by_map : (w : Bool) (x : X) (o : Option X) → cond w (option_map f o) (Some (f x)) ≡ option_map f (cond w o (Some x))
  by_map true x o = refl
  by_map false x o = refl

  unbeaten_map : (xs ys : List X) → first_unbeaten beats (map f xs) (map f ys) ≡ option_map f (first_unbeaten (λ a b. beats (f a) (f b)) xs ys)
  unfolding first_unbeaten
  unbeaten_map xs [] = refl
  unbeaten_map xs (y ∷ ys) = rw (beaten_map xs y, unbeaten_map xs ys) (by_map (beaten (λ a b. beats (f a) (f b)) xs y) y _)

  pub best_map : (xs : List X) → first_best beats (map f xs) ≡ option_map f (first_best (λ a b. beats (f a) (f b)) xs)
  unfolding first_best
  best_map xs = unbeaten_map xs xs
