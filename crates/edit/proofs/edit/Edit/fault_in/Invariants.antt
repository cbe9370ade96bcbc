use Rattle.std.proofs.Common.{◌≡◌, ℕ, length, get_or, take}
use Rattle.edit.specs.Drafts.{overwritten}
use Rattle.edit.proofs.edit.Edit.fault_in.Given as goal

abbrev pub invariant-loop-e : goal.invariant-loop-e
invariant-loop-e g l = record {
  long : length l.t ≡ 706;
  same : (k : ℕ) → get_or l.t k 0 ≡ get_or (overwritten (g.S.Store.cells l.store) (take l.e-index l.e-items)) k 0;
}
