-- The image at the layout's widths: each cell at the layout's place.
use Rattle.std.proofs.Common.{◌≡◌, ℕ, zero, suc, ◌+◌, ◌^◌, ◌<◌, ◌≤◌, List, [], ◌++◌, length, get_or, slice_get, take, drop, set, None, sym, refl, ap, ◌∙◌, subst, inl, inr, ⊎_elim, zero-add, arith}
use Rattle.layout.proofs.Fields.{width_least}
use Rattle.layout.specs.Layout.{cell_count, place_of, width}
use Rattle.std.proofs.lemmas.List.{append-nil, length-drop, length-take-le, take-append-drop, take_more}
use Rattle.std.proofs.lemmas.Bool.{cases_lt}
use Rattle.std.proofs.lemmas.Option.{slice_get_past}
use Rattle.std.specs.Int.Digits.{number_from_digits}
use Rattle.image.proofs.Digits.{length-bytes_of, number-bytes_of}
use Rattle.image.proofs.Spans.{back as back_at, encode_push, fits, inside, keeps, read, span_more, span_from, whole as whole-at, write}
use Rattle.image.specs.Image.{Bytes, bytes_of, Ended, Faithful, Fitting, image_cells, image_of, image_rest}
use Rattle.image.specs.Laws.{image_few}

next : (c : ℕ) → span_from width 0 (suc c) ≡ span_from width 0 c + width c
next c = let e = ap width (zero-add c) in let m = span_more width 0 c in omega arith

place_span : (c : ℕ) → span_from width 0 c ≡ place_of c
unfolding span_from place_of
place_span zero = refl
place_span (suc c) = let h = place_span c in let m = next c in omega arith

-- the bytes of a memory with v written into the n bytes from `at` on
abbrev pub written : ℕ → ℕ → ℕ → List ℕ → List ℕ
written at n v bs = take at bs ++ (bytes_of n v ++ drop n (drop at bs))

module _ (bs : List ℕ) (c : ℕ) where
  pub there : c < cell_count → place_of c + width c ≤ length bs → c < length (image_cells bs)
  there h l = let k = place_span c in let a = next c in inside width c cell_count 0 bs h (omega arith)

  pub bound : c < length (image_cells bs) → (c < cell_count) × (place_of c + width c ≤ length bs)
  bound h = let k = place_span c in let a = next c in let f = fits width c cell_count 0 bs h in (f.0, omega arith)

  pub absent : (c < cell_count → place_of c + width c ≤ length bs → ⊥) → slice_get (image_cells bs) c ≡ None
  absent h = slice_get_past (image_cells bs) c (⊎_elim (λ (l : c < length (image_cells bs)). let b = bound l in absurd (h b.0 b.1)) (λ l. l) (cases_lt c (length (image_cells bs))))

  module _ (h : c < length (image_cells bs)) (at n : ℕ) (a : at ≡ place_of c) (e : n ≡ width c) where
    front : List ℕ
    front = take at bs

    part : List ℕ
    part = take n (drop at bs)

    back : List ℕ
    back = drop n (drop at bs)

    parts : front ++ (part ++ back) ≡ bs
    unfolding front part back
    parts = rw (take-append-drop n (drop at bs)) (take-append-drop at bs)

    front_long : length front ≡ span_from width 0 c
    unfolding front
    front_long = let b = (bound h).1 in let k = place_span c in length-take-le at bs (omega arith) ∙ a ∙ sym k

    part_long : length part ≡ width c
    unfolding part
    part_long = let b = (bound h).1 in let d = length-drop at bs in length-take-le n (drop at bs) (omega arith) ∙ e

    pub read_at : number_from_digits 256 (take n (drop at bs)) ≡ get_or (image_cells bs) c 0
    unfolding part
    read_at =
        let r = read width c cell_count 0 c front part back (omega arith) (bound h).0 front_long part_long in
        sym (sym (ap (λ (x : List ℕ). get_or (image_cells x) c 0) parts) ∙ r)

    module _ (v : ℕ) (s : v < 256 ^ width c) where
      value : number_from_digits 256 (bytes_of n v) ≡ v
      value = number-bytes_of n v (subst (λ (k : ℕ). v < 256 ^ k) (sym e) s)

      new_long : length (bytes_of n v) ≡ width c
      new_long = length-bytes_of n v ∙ e

      pub write_at : image_cells (written at n v bs) ≡ set (image_cells bs) c v
      unfolding front back
      write_at =
          write width c cell_count 0 c front part (bytes_of n v) back (omega arith) (bound h).0 front_long part_long new_long
          ∙ ap (λ (x : List ℕ). set (image_cells x) c (number_from_digits 256 (bytes_of n v))) parts ∙ ap (set (image_cells bs) c) value

      pub keeps_at : image_rest (written at n v bs) ≡ image_rest bs
      unfolding front back
      keeps_at = keeps width c cell_count 0 c front part (bytes_of n v) back (omega arith) (bound h).0 front_long part_long new_long ∙ ap image_rest parts

-- no byte holds no whole cell
alone : {vs : List ℕ} → length vs ≤ cell_count → Ended vs []
alone {vs} l = record {
  few = l;
  ended = inr (width_least (length vs));
}

-- both ways round
pub whole : (bs : List ℕ) → Bytes bs → image_of (image_cells bs) ++ image_rest bs ≡ bs
whole bs h = whole-at width cell_count 0 bs h

back_again : (vs r : List ℕ) → Fitting vs → Ended vs r → (image_cells (image_of vs ++ r) ≡ vs) × (image_rest (image_of vs ++ r) ≡ r)
back_again vs r f e =
    let shift : (i : ℕ) → i ≡ 0 + i = λ i. sym (zero-add i) in
    back_at width cell_count 0 vs r (λ i. subst (λ (k : ℕ). get_or vs i 0 < 256 ^ width k) (shift i) (f i)) e.few
    (⊎_elim (λ p. inl p) (λ q. inr (subst (λ (m : ℕ). length r < width m) (shift (length vs)) q)) e.ended)

pub faithful : (vs : List ℕ) → Faithful vs
faithful vs = record {
  alone = λ f l. ap image_cells (sym (append-nil (image_of vs))) ∙ (back_again vs [] f (alone l)).0;
  before = λ r f e. back_again vs r f e;
}

-- one more cell encoded
encode_more : (vs : List ℕ) (i : ℕ) → i < length vs → image_of (take (i + 1) vs) ≡ image_of (take i vs) ++ bytes_of (width i) (get_or vs i 0)
encode_more vs i h =
    let l : 0 + length (take i vs) ≡ i = zero-add _ ∙ length-take-le i vs (omega arith) in
    ap image_of (take_more vs i 0 h)
    ∙ encode_push width 0 (take i vs) (get_or vs i 0)
    ∙ ap (λ (n : ℕ). image_of (take i vs) ++ bytes_of (width n) (get_or vs i 0)) l

pub encode_turn : (vs xs ys : List ℕ) (i n v : ℕ) → i < length vs → xs ≡ image_of (take i vs) → n ≡ width i → v ≡ get_or vs i 0 → ys ≡ xs ++ bytes_of n v
    → ys ≡ image_of (take (i + 1) vs)
encode_turn vs xs ys i n v h p w e q = let more = encode_more vs i h in q ∙ rw (p, w, e) (sym more)

-- when a cell is there
pub ruleset places = (there, bound, image_few)
