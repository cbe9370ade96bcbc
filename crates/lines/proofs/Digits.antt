-- How many digits a field of a look can have.
use Rattle.std.proofs.Common.{ℕ, ◌^◌, ◌<◌, ◌≤◌, length, arith}
use Rattle.std.specs.Fmt.{decimal}
use Rattle.std.proofs.lemmas.Fmt.{length-decimal-le}

pub byte : (n : ℕ) → n < 256 → length (decimal n) ≤ 3
byte n h = length-decimal-le 3 n (omega arith) (omega arith) (omega arith)

pub word : (n : ℕ) → n < 2 ^ 32 → length (decimal n) ≤ 10
word n h = length-decimal-le 10 n (omega arith) (omega arith) (omega arith)

pub long : (n : ℕ) → n < 2 ^ 64 → length (decimal n) ≤ 20
long n h = length-decimal-le 20 n (omega arith) (omega arith) h
