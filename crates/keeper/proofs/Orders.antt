-- The orders of the ranks, in the subject's words.
use Rattle.std.proofs.Common.{◌≡◌, ℕ, ltb, arith}
use Rattle.std.proofs.lemmas.Bool.Decides.{nat_tests}
use Rattle.std.specs.Ordering.{is_lt, nat_cmp, ordering_then}
use Rattle.keeper.specs.Fewer.{fewer}
use Rattle.keeper.specs.declared.counts.Counts.{Counts}

-- numbers rank by which is less
pub numbers : (m n : ℕ) → is_lt (nat_cmp m n) ≡ ltb m n
numbers m n = grind (arith, nat_tests)

-- counts, whose order goes by months, then dates, then weekdays, rank by which are fewer
pub counts : (x y : Counts) → is_lt (ordering_then (nat_cmp x.months y.months) (ordering_then (nat_cmp x.dates y.dates) (nat_cmp x.weekdays y.weekdays)))
    ≡ fewer x.months x.dates x.weekdays y.months y.dates y.weekdays
counts x y = grind (arith, nat_tests)
