-- What a look at an engine answers. Assumes nothing.
use Rattle.std.specs.Prelude.{ℕ, List, Some, None, Ok, Err, Option, Result}
use Rattle.refusal.specs.declared.refusal.Refusal.{Refusal}
use Rattle.refusal.specs.declared.refusal.Refusal.TheVariants.{NoTime}
use Rattle.schedule.specs.Looks.{Rule, look_at}
use Rattle.schedule.specs.declared.answer.Look.{Look}

-- the look of the cells at the time, or the refusal without one
abbrev pub look_answer : Rule → List ℕ → Option ℕ → Result Look Refusal
look_answer rule cells None = Err NoTime
look_answer rule cells (Some t) = Ok (look_at cells rule t)
