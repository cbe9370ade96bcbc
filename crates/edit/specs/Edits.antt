-- What an edit stands for. Assumes nothing.
use Rattle.std.specs.Prelude.{take}
use Rattle.edit.specs.declared.edit.Edit.{Edit}
use Rattle.edit.specs.Drafts.{Draft}

-- the recorded values, and the mark of a good check
abbrev pub draft_of : Edit → Draft
draft_of e = record { entries = take e.count e.table; marked = e.checked }
