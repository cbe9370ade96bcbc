-- Each refusal with its number and its words, and each rule with its number. Assumes nothing.
use Rattle.std.specs.Prelude.{ℕ, List, codes}
use Rattle.refusal.specs.declared.refusal.Refusal.{Refusal}
use Rattle.refusal.specs.declared.rule.Rule.{Rule}
use Rattle.refusal.specs.declared.rule.Rule.TheVariants.{CellInRange, RowWhole, RowServed, StartAlone}
use Rattle.refusal.specs.declared.refusal.Refusal.TheVariants.{NoTime, TimeNotTaken, NoCell, BadValue, EditOpen, NoEdit, EditFull, Inconsistent, NotChecked, BadOrder, NoDate}

-- the number that a refused call returns
abbrev pub number_of : Refusal → ℕ
number_of NoTime = 1
number_of TimeNotTaken = 2
number_of NoCell = 3
number_of BadValue = 4
number_of EditOpen = 5
number_of NoEdit = 6
number_of EditFull = 7
number_of (Inconsistent rule cell) = 8
number_of NotChecked = 9
number_of BadOrder = 10
number_of NoDate = 11

-- the same in words
abbrev pub words_of : Refusal → List ℕ
words_of NoTime = codes "no time"
words_of TimeNotTaken = codes "time not taken"
words_of NoCell = codes "no cell"
words_of BadValue = codes "bad value"
words_of EditOpen = codes "edit open"
words_of NoEdit = codes "no edit"
words_of EditFull = codes "edit full"
words_of (Inconsistent rule cell) = codes "inconsistent"
words_of NotChecked = codes "not checked"
words_of BadOrder = codes "bad order"
words_of NoDate = codes "no date"

-- the number of a rule
abbrev pub number_of_rule : Rule → ℕ
number_of_rule CellInRange = 1
number_of_rule RowWhole = 2
number_of_rule RowServed = 3
number_of_rule StartAlone = 4
