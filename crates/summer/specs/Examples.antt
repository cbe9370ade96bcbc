-- Both laws at their ends in 2024. Assumes nothing.
use Rattle.std.specs.Prelude.{◌≡◌, true, false, pos, negsuc, Some}
use Rattle.keeper.specs.Least.{least_later, changes}
use Rattle.summer.specs.Laws.{america, europe}

-- America at offset -18,000 runs from 1710054000 until 1730613600; Europe's summer of 2024 ends at 1729990800
pub record Examples : Type 0 where
  pub before : america (negsuc 17999) 1710053999 ≡ false
  pub first : america (negsuc 17999) 1710054000 ≡ true
  pub last : america (negsuc 17999) 1730613599 ≡ true
  pub after : america (negsuc 17999) 1730613600 ≡ false
  pub next : least_later (changes (america (negsuc 17999))) 1710054000 4294967295 ≡ Some 1730613600
  pub summer : europe (pos 3600) 1729990799 ≡ true
  pub winter : europe (pos 3600) 1729990800 ≡ false
