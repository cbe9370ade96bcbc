-- How answers cross to another language. Assumes nothing.
use Rattle.std.specs.Prelude.{ℕ, false, cond, List, ℤ, pos, negsuc, Some, None, Ok, Err, Option, Result, ◌==◌}
use Rattle.engine.specs.Book.{State}
use Rattle.runner.specs.declared.stopped.Stopped.{Stopped}
use Rattle.refusal.specs.declared.refusal.Refusal.{Refusal}
use Rattle.refusal.specs.declared.refusal.Refusal.TheVariants.{NoTime, TimeNotTaken, NoCell, BadValue, EditOpen, NoEdit, EditFull, Inconsistent, NotChecked, BadOrder, NoDate}
use Rattle.refusal.specs.Refusals.{number_of, number_of_rule}
use Rattle.schedule.specs.Looks.{Rule}
use Rattle.schedule.specs.declared.answer.Look.{Look}
use Rattle.summer.specs.Laws.{america, europe}
use Rattle.exports.specs.declared.law.Law.{Law}
use Rattle.exports.specs.declared.law.Law.TheVariants as law
use Rattle.exports.specs.declared.fields.Fields.{Fields}
use Rattle.exports.specs.declared.fields.Outcome.{Outcome}

-- the rule that is never in force
abbrev pub never : Rule
never o s = false

-- the rules by number: 1 is Europe's, 2 is America's, every other is none
abbrev pub rule_at : ℕ → Rule
rule_at k = cond (k == 1) europe (cond (k == 2) america never)

-- a law that was chosen
abbrev pub in_force_by : Law → Rule
in_force_by law.Europe = europe
in_force_by law.America = america
in_force_by law.NoSummer = never

-- a second, or -1 for none
abbrev pub second_or : Option ℕ → ℤ
second_or (Some s) = pos s
second_or None = negsuc 0

-- the fields of a look
abbrev pub fields_of : Look → Fields
fields_of l =
    record {
      local_time = l.local_time;
      last_second = l.last_second;
      row = l.row;
      plan = l.plan;
      event_plan = l.event_plan;
      event = l.event;
      days_back = l.days_back;
      tariff = l.tariff;
    }

-- the rule and the cell of a refusal; of others than 8 they are 0
abbrev pub rule_of : Refusal → ℕ
rule_of (Inconsistent r c) = number_of_rule r
rule_of NoTime = 0
rule_of TimeNotTaken = 0
rule_of NoCell = 0
rule_of BadValue = 0
rule_of EditOpen = 0
rule_of NoEdit = 0
rule_of EditFull = 0
rule_of NotChecked = 0
rule_of BadOrder = 0
rule_of NoDate = 0

abbrev pub cell_of : Refusal → ℕ
cell_of (Inconsistent r c) = c
cell_of NoTime = 0
cell_of TimeNotTaken = 0
cell_of NoCell = 0
cell_of BadValue = 0
cell_of EditOpen = 0
cell_of NoEdit = 0
cell_of EditFull = 0
cell_of NotChecked = 0
cell_of BadOrder = 0
cell_of NoDate = 0

-- how an order ended
abbrev pub outcome_of : Result (Unit {0}) Stopped → Outcome
outcome_of (Ok u) = record { place = 0; cell = 0; refusal = 0; rule = 0 }
outcome_of (Err s) = record { place = s.place; cell = cell_of s.why; refusal = number_of s.why; rule = rule_of s.why }

-- an engine newly made over some cells
abbrev pub unopened : List ℕ → State
unopened cells = record { cells = cells; edit = None }
