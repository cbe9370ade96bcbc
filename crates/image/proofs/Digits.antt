-- A number and its bytes, both ways.
use Rattle.std.proofs.Common.{◌≡◌, ℕ, zero, suc, ◌+◌, ◌*◌, ◌/◌, ◌%◌, ◌^◌, ◌<◌, List, [], ◌∷◌, length, get_or, take, sym, refl, ap, ◌∙◌, subst, pow-suc, add-one, arith}
use Rattle.std.proofs.lemmas.Nat.{div_below}
use Rattle.std.proofs.lemmas.Int.Digits.{number_more, number_push}
use Rattle.std.proofs.lemmas.List.{length_push, length-take-le, take_all, take_more}
use Rattle.std.specs.Int.Digits.{number_from_digits}
use Rattle.image.specs.Image.{Bytes, bytes_of}
use Rattle.image.proofs.Below.{below_take}
use Rattle.store.specs.Laws.{wider}

pub length-bytes_of : (n v : ℕ) → length (bytes_of n v) ≡ n
unfolding bytes_of
length-bytes_of zero v = refl
length-bytes_of (suc n) v = let h = length-bytes_of n (v / 256) in length_push (bytes_of n (v / 256)) (v % 256) ∙ omega arith

pub number-bytes_of : (n v : ℕ) → v < 256 ^ n → number_from_digits 256 (bytes_of n v) ≡ v
unfolding bytes_of
number-bytes_of zero v h = let k : v < 1 = h in omega arith
number-bytes_of (suc n) v h =
    let d : v / 256 < 256 ^ n = div_below v 256 (256 ^ n) (omega arith) (subst (λ (x : ℕ). v < x) (pow-suc 256 n) h) in
    let e = number-bytes_of n (v / 256) d in
    number_push 256 (bytes_of n (v / 256)) (v % 256) ∙ omega arith

pub bytes_of-number : (n : ℕ) (bs : List ℕ) → length bs ≡ n → Bytes bs → bytes_of n (number_from_digits 256 bs) ≡ bs
unfolding bytes_of
bytes_of-number zero [] l h = refl
bytes_of-number zero (b ∷ bs) l h = absurd (omega arith)
bytes_of-number (suc n) bs l h =
    let m : number_from_digits 256 (take (n + 1) bs) ≡ number_from_digits 256 (take n bs) * 256 + get_or bs n 0 = number_more 256 bs n (omega arith) in
    let a : take (n + 1) bs ≡ bs = take_all (n + 1) bs (omega arith) in
    let s : number_from_digits 256 bs ≡ number_from_digits 256 (take n bs) * 256 + get_or bs n 0 = sym (ap (number_from_digits 256) a) ∙ m in
    let g = h n in
    let q : number_from_digits 256 bs / 256 ≡ number_from_digits 256 (take n bs) = omega arith in
    let r : number_from_digits 256 bs % 256 ≡ get_or bs n 0 = omega arith in
    let lt : length (take n bs) ≡ n = length-take-le n bs (omega arith) in
    let i : bytes_of n (number_from_digits 256 (take n bs)) ≡ take n bs = bytes_of-number n (take n bs) lt (below_take 256 n bs (omega arith) h) in
    rw (q, r, i) (sym (take_more bs n 0 (omega arith)) ∙ a)

-- one more byte read
pub read_small : (i v : ℕ) → i < 4 → v < 256 ^ i → v < 16777216
read_small i v h l = let p = wider i 3 (omega arith) in omega arith

pub read_more : (bs : List ℕ) (i v b : ℕ) → i < length bs → b ≡ get_or bs i 0 → b < 256 → v ≡ number_from_digits 256 (take i bs) → v < 256 ^ i
    → (v * 256 + b ≡ number_from_digits 256 (take (i + 1) bs)) × (v * 256 + b < 256 ^ (i + 1))
read_more bs i v b h e s n l =
    let m = number_more 256 bs i h in
    let p : 256 ^ (i + 1) ≡ 256 ^ i * 256 = ap (λ (x : ℕ). 256 ^ x) (add-one i) ∙ pow-suc 256 i in
    (omega arith, omega arith)
