-- A life of calls by their numbers, and what is told of it. Assumes nothing.
use Rattle.std.specs.Prelude.{◌≡◌, ℕ, ◌-◌, cond, ◌&&◌, List, [], ◌++◌, map, length, take, drop, pos, None, Err, ◌==◌, nat_le}
use Rattle.std.specs.Borrow.{Bor}
use Rattle.refusal.specs.declared.refusal.Refusal.{Refusal}
use Rattle.refusal.specs.Refusals.{number_of}
use Rattle.clock.specs.Setting.{Kind, counter_kind}
use Rattle.layers.specs.Vouching.{vouched_kind}
use Rattle.chip.specs.Chip.{chip_kind}
use Rattle.image.specs.Image.{image_cells, image_of, image_rest}
use Rattle.summer.specs.Laws.{europe}
use Rattle.engine.specs.Book.{unedited}
use Rattle.history.specs.declared.calls.Call.{Call}
use Rattle.history.specs.declared.calls.Call.TheVariants.{Look, Set, Pass, Get, Open, Put, Check, Commit, Discard, Clear, Run}
use Rattle.history.specs.declared.calls.Answer.{Answer}
use Rattle.history.specs.declared.calls.Answer.TheVariants as says
use Rattle.history.specs.Book.{answers, kept}
use Rattle.history.specs.History.{Meaning}
use Rattle.exports.specs.Crossing.{cell_of, fields_of, outcome_of, rule_of}
use Rattle.exports.specs.declared.fields.Fields.{Fields}
use Rattle.exports.specs.declared.fields.Outcome.{Outcome}
use Rattle.exports.specs.declared.fields.Step.{Step}
use Rattle.exports.specs.declared.fields.Told.{Told}

-- the bytes from a place to another, none where there are no such
abbrev pub part_of : List ℕ → ℕ → ℕ → List ℕ
part_of orders from to = cond (nat_le from to && nat_le to (length orders)) (take (to - from) (drop from orders)) []

-- some bytes, wherever they lie
abbrev pub lying : List ℕ → Bor (List ℕ)
lying bytes = record { ref_ptr = (0, 0); now = bytes }

-- the call that a step stands for
abbrev pub call_of : List ℕ → Step → Call
call_of orders s =
    cond (s.call == 1) (Set s.first)
    (cond (s.call == 2) (Pass s.first)
    (cond (s.call == 3) (Get s.first)
    (cond (s.call == 4) Open
    (cond (s.call == 5) (Put s.first s.second)
    (cond (s.call == 6) Check
    (cond (s.call == 7) Commit
    (cond (s.call == 8) Discard
    (cond (s.call == 9) Clear
    (cond (s.call == 10) (Run (lying (part_of orders s.first s.second))) Look)))))))))

-- two calls are the same but for where a Run's order lies
abbrev pub Same : Call → Call → Type 0
Same (Run order) c = c ≡ Run (lying order.now)
Same Look c = c ≡ Look
Same (Set t) c = c ≡ Set t
Same (Pass n) c = c ≡ Pass n
Same (Get k) c = c ≡ Get k
Same Open c = c ≡ Open
Same (Put k v) c = c ≡ Put k v
Same Check c = c ≡ Check
Same Commit c = c ≡ Commit
Same Discard c = c ≡ Discard
Same Clear c = c ≡ Clear

-- nothing told
abbrev pub no_fields : Fields
no_fields =
    record { local_time = pos 0; last_second = 0; row = 0; plan = 0; event_plan = 0; event = 0; days_back = 0; tariff = 0 }

abbrev pub no_outcome : Outcome
no_outcome = record { place = 0; cell = 0; refusal = 0; rule = 0 }

abbrev pub refused_by : Refusal → Outcome
refused_by why = record { place = 0; cell = cell_of why; refusal = number_of why; rule = rule_of why }

-- what is told of an answer
abbrev pub told_of : Answer → Told
told_of says.Done = record { outcome = no_outcome; value = 0; look = no_fields }
told_of (says.Cell v) = record { outcome = no_outcome; value = v; look = no_fields }
told_of (says.Seen l) = record { outcome = no_outcome; value = 0; look = fields_of l }
told_of (says.Refused why) = record { outcome = refused_by why; value = 0; look = no_fields }
told_of (says.Stopped s) = record { outcome = outcome_of (Err s); value = 0; look = no_fields }

-- the kinds of clock by number: 1 is a chip, 2 a layer over a chip, 3 a layer over a counter, every other a counter
abbrev pub kind_at : ℕ → Kind
kind_at n = cond (n == 1) chip_kind (cond (n == 2) (vouched_kind chip_kind) (cond (n == 3) (vouched_kind counter_kind) counter_kind))

-- the calls of a life
abbrev pub calls_of : List ℕ → List Step → List Call
calls_of orders steps = map (call_of orders) steps

-- what a life does to an engine, and what it tells
pub record Acted (kind : Kind) (before : Meaning) (calls : List Call) (after : Meaning) (out : List Told) : Type 0 where
  pub book : after.book ≡ kept before.book calls
  pub memory : after.memory ≡ before.memory
  pub told : out ≡ map told_of (answers kind before.rule before.time before.book calls)

-- a life on an image by a clock of a kind that is made without a time: what is told of each call, and the image after
pub record LifeOn (kind : Kind) (image : List ℕ) (calls : List Call) (out : List Told) (after : List ℕ) : Type 0 where
  pub told : out ≡ map told_of (answers kind europe (None, 0) (unedited (image_cells image)) calls)
  pub memory : after ≡ image_of (kept (unedited (image_cells image)) calls).cells ++ image_rest image
