-- One more element of a list that is written from another.
use Rattle.std.proofs.Common.{◌≡◌, ℕ, ◌+◌, ◌<◌, List, [], ◌∷◌, ◌++◌, map, length, get_or, take, set, sym, ap, ◌∙◌}
use Rattle.std.proofs.lemmas.List.{map_more, take_more_set}

pub one_more : {X Y : Type 0} (f : X → Y) (xs : List X) (ys : List Y) (i : ℕ) (x : X) (y : Y) → i < length xs → i < length ys → x ≡ get_or xs i x → y ≡ f x → take i ys ≡ map f (take i xs) → take (i + 1) (set ys i y) ≡ map f (take (i + 1) xs)
one_more f xs ys i x y l k r e h =
    take_more_set ys i y k
    ∙ (ap (λ zs. zs ++ y ∷ []) h ∙ (ap (λ z. map f (take i xs) ++ z ∷ []) (e ∙ ap f r) ∙ sym (map_more f xs i x l)))
