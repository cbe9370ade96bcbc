-- The offset of a zone. Assumes nothing.
use Rattle.std.specs.Prelude.{cond, ℤ, pos, negsuc, ◌≤ℤ◌, int_lt}

-- at most twelve hours either way
pub record InZone (offset : ℤ) : Type 0 where
  pub west : negsuc 43199 ≤ℤ offset
  pub east : offset ≤ℤ pos 43200

-- an offset beyond twelve hours counts as 0
abbrev pub zone : ℤ → ℤ
zone o = cond (int_lt o (negsuc 43199)) (pos 0) (cond (int_lt (pos 43200) o) (pos 0) o)
