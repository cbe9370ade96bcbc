-- Cells at any widths w: which fit, what one holds, what a write to one changes, and both ways round.
use Rattle.std.proofs.Common.{◌≡◌, ℕ, zero, suc, ◌+◌, ◌^◌, ◌<◌, ◌≤◌, leb, ◌⊎◌, List, [], ◌∷◌, ◌++◌, length, get_or, take, drop, set, sym, refl, ap, ◌∙◌, subst, inl, inr, ⊎_elim, add-zero, arith}
use Rattle.std.proofs.lemmas.List.{append_assoc, append-nil, drop-append-le, drop_at, length-append, length-drop, length-take-le, take-append-drop, take-append-le, take_at}
use Rattle.std.proofs.lemmas.Bool.{cases_lt, cond-false, cond-true, le-leb, lt-leb}
use Rattle.std.specs.Int.Digits.{number_from_digits}
use Rattle.image.proofs.Digits.{bytes_of-number, length-bytes_of, number-bytes_of}
use Rattle.image.specs.Image.{Bytes, bytes_of, cells_from, encode_from, rest_from}
use Rattle.image.proofs.Below.{below_drop, below_take}

-- the bytes of i cells from cell c on
unfoldable pub span_from : (ℕ → ℕ) → ℕ → ℕ → ℕ
span_from w c zero = 0
span_from w c (suc i) = w c + span_from w (suc c) i

module _ (w : ℕ → ℕ) where
  cells_yes : (n c : ℕ) (bs : List ℕ) → w c ≤ length bs → cells_from w (suc n) c bs ≡ number_from_digits 256 (take (w c) bs) ∷ cells_from w n (suc c) (drop (w c) bs)
  unfolding cells_from
  cells_yes n c bs h = cond-true (leb (w c) (length bs)) _ _ (le-leb (w c) (length bs) h)

  cells_no : (n c : ℕ) (bs : List ℕ) → length bs < w c → cells_from w (suc n) c bs ≡ []
  unfolding cells_from
  cells_no n c bs h = cond-false (leb (w c) (length bs)) _ _ (lt-leb (w c) (length bs) h)

  rest_yes : (n c : ℕ) (bs : List ℕ) → w c ≤ length bs → rest_from w (suc n) c bs ≡ rest_from w n (suc c) (drop (w c) bs)
  unfolding rest_from
  rest_yes n c bs h = cond-true (leb (w c) (length bs)) _ _ (le-leb (w c) (length bs) h)

  rest_no : (n c : ℕ) (bs : List ℕ) → length bs < w c → rest_from w (suc n) c bs ≡ bs
  unfolding rest_from
  rest_no n c bs h = cond-false (leb (w c) (length bs)) _ _ (lt-leb (w c) (length bs) h)

  pub span_more : (c i : ℕ) → span_from w c (suc i) ≡ span_from w c i + w (c + i)
  unfolding span_from
  span_more c zero = let e : w (c + 0) ≡ w c = ap w (add-zero c) in omega arith
  span_more c (suc i) =
      let h : span_from w (suc c) (suc i) ≡ span_from w (suc c) i + w (suc c + i) = span_more (suc c) i in
      let q : suc c + i ≡ c + suc i = omega arith in
      let e : w (suc c + i) ≡ w (c + suc i) = ap w q in omega arith

  -- a cell is there as soon as its bytes are, and only then
  pub inside : (i n c : ℕ) (bs : List ℕ) → i < n → span_from w c (suc i) ≤ length bs → i < length (cells_from w n c bs)
  unfolding span_from
  inside i zero c bs h l = absurd (omega arith)
  inside zero (suc n) c bs h l = let e = ap length (cells_yes n c bs (omega arith)) in omega arith
  inside (suc i) (suc n) c bs h l =
      let e = ap length (cells_yes n c bs (omega arith)) in
      let r = inside i n (suc c) (drop (w c) bs) (omega arith) (simp length-drop (omega arith)) in omega arith

  pub fits : (i n c : ℕ) (bs : List ℕ) → i < length (cells_from w n c bs) → (i < n) × (span_from w c (suc i) ≤ length bs)
  unfolding span_from cells_from
  fits i zero c bs h = absurd (omega arith)
  fits zero (suc n) c bs h =
      ⊎_elim (λ p. let e = ap length (cells_no n c bs p) in absurd (omega arith)) (λ q. (omega arith, omega arith)) (cases_lt (length bs) (w c))
  fits (suc i) (suc n) c bs h =
      ⊎_elim (λ p. let e = ap length (cells_no n c bs p) in absurd (omega arith))
      (λ q.
      let e = ap length (cells_yes n c bs q) in
      let r = fits i n (suc c) (drop (w c) bs) (omega arith) in
      let l = length-drop (w c) bs in (omega arith, omega arith))
      (cases_lt (length bs) (w c))

  -- memory in three parts: what lies before cell i, its bytes, and the others
  front : (a x b : List ℕ) (k : ℕ) → k ≤ length a → (take k (a ++ (x ++ b)) ≡ take k a) × (drop k (a ++ (x ++ b)) ≡ drop k a ++ (x ++ b))
  front a x b k h = (take-append-le k a (x ++ b) h, drop-append-le k a (x ++ b) h)

  long : (a x b : List ℕ) → length (a ++ (x ++ b)) ≡ length a + (length x + length b)
  long a x b = length-append a (x ++ b) ∙ ap (λ (n : ℕ). length a + n) (length-append x b)

  pub read : (i n c m : ℕ) (a x b : List ℕ) → m ≡ c + i → i < n → length a ≡ span_from w c i → length x ≡ w m
      → get_or (cells_from w n c (a ++ (x ++ b))) i 0 ≡ number_from_digits 256 x
  unfolding span_from
  read i zero c m a x b e h l k = absurd (omega arith)
  read zero (suc n) c m (y ∷ a) x b e h l k = absurd (omega arith)
  read zero (suc n) c m [] x b e h l k =
      let q : length x ≡ w c = k ∙ ap w (e ∙ add-zero c) in
      let g = long [] x b in
      ap (λ (cs : List ℕ). get_or cs 0 0) (cells_yes n c (x ++ b) (omega arith)) ∙ ap (number_from_digits 256) (take_at x b (w c) q)
  read (suc i) (suc n) c m a x b e h l k =
      let g = long a x b in
      let f = front a x b (w c) (omega arith) in
      let d = length-drop (w c) a in
      ap (λ (cs : List ℕ). get_or cs (suc i) 0) (cells_yes n c (a ++ (x ++ b)) (omega arith))
      ∙ ap (λ (bs : List ℕ). get_or (cells_from w n (suc c) bs) i 0) f.1
      ∙ read i n (suc c) m (drop (w c) a) x b (omega arith) (omega arith) (omega arith) k

  pub write : (i n c m : ℕ) (a x y b : List ℕ) → m ≡ c + i → i < n → length a ≡ span_from w c i → length x ≡ w m → length y ≡ w m
      → cells_from w n c (a ++ (y ++ b)) ≡ set (cells_from w n c (a ++ (x ++ b))) i (number_from_digits 256 y)
  unfolding span_from
  write i zero c m a x y b e h l k j = absurd (omega arith)
  write zero (suc n) c m (z ∷ a) x y b e h l k j = absurd (omega arith)
  write zero (suc n) c m [] x y b e h l k j =
      let q : length x ≡ w c = k ∙ ap w (e ∙ add-zero c) in
      let r : length y ≡ w c = j ∙ ap w (e ∙ add-zero c) in
      let g = long [] x b in let g' = long [] y b in
      let s = cells_yes n c (x ++ b) (omega arith) in
      let t = cells_yes n c (y ++ b) (omega arith) in
      let dx = drop_at x b (w c) q in
      let ty = take_at y b (w c) r in let dy = drop_at y b (w c) r in
      rw (s, t, ty, dx, dy)
  write (suc i) (suc n) c m a x y b e h l k j =
      let g = long a x b in let g' = long a y b in
      let f = front a x b (w c) (omega arith) in let f' = front a y b (w c) (omega arith) in
      let d = length-drop (w c) a in
      let s = cells_yes n c (a ++ (x ++ b)) (omega arith) in
      let t = cells_yes n c (a ++ (y ++ b)) (omega arith) in
      let r = write i n (suc c) m (drop (w c) a) x y b (omega arith) (omega arith) (omega arith) k j in
      let f0 = f.0 in let f1 = f.1 in let g0 = f'.0 in let g1 = f'.1 in
      rw (s, t, f0, f1, g0, g1, r)

  pub keeps : (i n c m : ℕ) (a x y b : List ℕ) → m ≡ c + i → i < n → length a ≡ span_from w c i → length x ≡ w m → length y ≡ w m
      → rest_from w n c (a ++ (y ++ b)) ≡ rest_from w n c (a ++ (x ++ b))
  unfolding span_from
  keeps i zero c m a x y b e h l k j = absurd (omega arith)
  keeps zero (suc n) c m (z ∷ a) x y b e h l k j = absurd (omega arith)
  keeps zero (suc n) c m [] x y b e h l k j =
      let q : length x ≡ w c = k ∙ ap w (e ∙ add-zero c) in
      let r : length y ≡ w c = j ∙ ap w (e ∙ add-zero c) in
      let g = long [] x b in let g' = long [] y b in
      let s = rest_yes n c (x ++ b) (omega arith) in
      let t = rest_yes n c (y ++ b) (omega arith) in
      let dx = drop_at x b (w c) q in let dy = drop_at y b (w c) r in
      rw (s, t, dx, dy)
  keeps (suc i) (suc n) c m a x y b e h l k j =
      let g = long a x b in let g' = long a y b in
      let f = front a x b (w c) (omega arith) in let f' = front a y b (w c) (omega arith) in
      let d = length-drop (w c) a in
      let s = rest_yes n c (a ++ (x ++ b)) (omega arith) in
      let t = rest_yes n c (a ++ (y ++ b)) (omega arith) in
      let r = keeps i n (suc c) m (drop (w c) a) x y b (omega arith) (omega arith) (omega arith) k j in
      let f1 = f.1 in let g1 = f'.1 in
      rw (s, t, f1, g1, r)

  -- one more cell encoded
  pub encode_push : (c : ℕ) (vs : List ℕ) (v : ℕ) → encode_from w c (vs ++ v ∷ []) ≡ encode_from w c vs ++ bytes_of (w (c + length vs)) v
  unfolding encode_from
  encode_push c [] v = append-nil (bytes_of (w c) v) ∙ ap (λ (n : ℕ). bytes_of (w n) v) (sym (add-zero c))
  encode_push c (x ∷ xs) v =
      let h = encode_push (suc c) xs v in
      let q : suc c + length xs ≡ c + suc (length xs) = omega arith in
      ap (λ (bs : List ℕ). bytes_of (w c) x ++ bs) h
      ∙ sym (append_assoc (bytes_of (w c) x) (encode_from w (suc c) xs) (bytes_of (w (suc c + length xs)) v))
      ∙ ap (λ (n : ℕ). (bytes_of (w c) x ++ encode_from w (suc c) xs) ++ bytes_of (w n) v) q

  -- bytes to cells to bytes
  pub whole : (n c : ℕ) (bs : List ℕ) → Bytes bs → encode_from w c (cells_from w n c bs) ++ rest_from w n c bs ≡ bs
  unfolding cells_from rest_from encode_from
  whole zero c bs h = refl
  whole (suc n) c bs h =
      ⊎_elim
      (λ p. let s = cells_no n c bs p in let t = rest_no n c bs p in rw (s, t))
      (λ q.
      let s = cells_yes n c bs q in let t = rest_yes n c bs q in
      let u = bytes_of-number (w c) (take (w c) bs) (length-take-le (w c) bs q) (below_take 256 (w c) bs (omega arith) h) in
      let v = whole n (suc c) (drop (w c) bs) (below_drop 256 (w c) bs h) in
      rw (s, t, u) (append_assoc (take (w c) bs) _ _ ∙ rw v (take-append-drop (w c) bs)))
      (cases_lt (length bs) (w c))

  -- cells to bytes to cells
  pub back : (n c : ℕ) (vs r : List ℕ) → ((i : ℕ) → get_or vs i 0 < 256 ^ w (c + i)) → length vs ≤ n → (length vs ≡ n) ⊎ (length r < w (c + length vs))
      → (cells_from w n c (encode_from w c vs ++ r) ≡ vs) × (rest_from w n c (encode_from w c vs ++ r) ≡ r)
  unfolding cells_from rest_from encode_from
  back zero c [] r f l e = (refl, refl)
  back zero c (v ∷ vs) r f l e = absurd (omega arith)
  back (suc n) c [] r f l e =
      ⊎_elim (λ p. absurd (omega arith))
      (λ q. let z : w (c + 0) ≡ w c = ap w (add-zero c) in let s : length r < w c = omega arith in (cells_no n c r s, rest_no n c r s)) e
  back (suc n) c (v ∷ vs) r f l e =
      let lb : length (bytes_of (w c) v) ≡ w c = length-bytes_of (w c) v in
      let aa = append_assoc (bytes_of (w c) v) (encode_from w (suc c) vs) r in
      let la = length-append (bytes_of (w c) v) (encode_from w (suc c) vs ++ r) in
      let s = cells_yes n c (bytes_of (w c) v ++ (encode_from w (suc c) vs ++ r)) (omega arith) in
      let t = rest_yes n c (bytes_of (w c) v ++ (encode_from w (suc c) vs ++ r)) (omega arith) in
      let ta = take_at (bytes_of (w c) v) (encode_from w (suc c) vs ++ r) (w c) lb in
      let da = drop_at (bytes_of (w c) v) (encode_from w (suc c) vs ++ r) (w c) lb in
      let nb = number-bytes_of (w c) v (subst (λ (k : ℕ). v < 256 ^ w k) (add-zero c) (f 0)) in
      let shift : (i : ℕ) → c + suc i ≡ suc c + i = λ i. omega arith in
      let rest-fits : (i : ℕ) → get_or vs i 0 < 256 ^ w (suc c + i) = λ i. subst (λ (k : ℕ). get_or vs i 0 < 256 ^ w k) (shift i) (f (suc i)) in
      let ih = back n (suc c) vs r rest-fits (omega arith) (⊎_elim (λ p. inl (omega arith)) (λ k. inr (subst (λ (m : ℕ). length r < w m) (shift (length vs)) k)) e) in
      let i0 = ih.0 in let i1 = ih.1 in
      (rw (aa, s, ta, da, nb, i0), rw (aa, t, da, i1))
