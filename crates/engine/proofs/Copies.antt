-- Copied cells have the tables of those that they are copied from.
use Rattle.std.proofs.Common.{◌≡◌, ℕ, List, ap}
use Rattle.checks.specs.Words.{reading}
use Rattle.tables.specs.Cells.{cell_at, timetable}

pub copied_tables : (cells copies : List ℕ) → reading copies ≡ reading cells → timetable (cell_at copies) ≡ timetable (cell_at cells)
copied_tables cells copies h = ap timetable h
