-- What the tables hold. Assumes nothing.
use Rattle.std.specs.Prelude.{ℕ, List, map, take}
use Rattle.tables.specs.Cells.{Timetable}
use Rattle.tables.specs.declared.list.Listed.{Listed}
use Rattle.tables.specs.declared.tables.Tables.{Tables}

-- the things, as far as they are filled in
abbrev pub things_in : {T : Type 0} {N : ℕ} → Listed T N → List T
things_in l = take l.count l.places

-- the timetable that tables are
abbrev pub timetable_in : Tables → Timetable
timetable_in t = record { offset = t.offset; summer = t.summer; rows = things_in t.rows; plans = map things_in t.plans }
