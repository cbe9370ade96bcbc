-- The four bytes of a number, of which a cell has the last ones.
use Rattle.std.proofs.Common.{◌≡◌, ℕ, zero, suc, ◌-◌, ◌≤◌, List, drop, take, refl, arith}
use Rattle.std.proofs.Math.Nat.{div-div-eq-div-mul}
use Rattle.std.specs.Int.{to_be_bytes, w32}
use Rattle.image.specs.Image.{bytes_of}

last_of : (n v : ℕ) → n ≤ 4 → take (4 - (4 - n)) (drop (4 - n) (to_be_bytes w32 v)) ≡ bytes_of n v
unfolding bytes_of
last_of zero v h = refl
last_of (suc zero) v h = refl
last_of (suc (suc zero)) v h = refl
last_of (suc (suc (suc zero))) v h = simp div-div-eq-div-mul
last_of (suc (suc (suc (suc zero)))) v h = simp div-div-eq-div-mul
last_of (suc (suc (suc (suc (suc n))))) v h = absurd (omega arith)

pub last_bytes : (n v : ℕ) (four : List ℕ) → n ≤ 4 → four ≡ to_be_bytes w32 v → take (4 - (4 - n)) (drop (4 - n) four) ≡ bytes_of n v
last_bytes n v four h e = rw e (last_of n v h)
