-- Where there is a place for each answer, the whole life is lived.
use Rattle.std.proofs.Common.{◌≡◌, ℕ, min, List, ◌++◌, length, take, drop, Option, Result, sym, ap, ◌∙◌, arith, take_at}
use Rattle.std.proofs.lemmas.List.{take_all}
use Rattle.refusal.specs.declared.refusal.Refusal.{Refusal}
use Rattle.schedule.specs.declared.answer.Look.{Look}
use Rattle.summer.specs.Laws.{europe}
use Rattle.image.specs.Image.{image_cells}
use Rattle.engine.specs.Book.{unedited}
use Rattle.engine.specs.Looks.{look_answer}
use Rattle.history.specs.declared.calls.Call.{Call}
use Rattle.history.specs.declared.calls.Answer.{Answer}
use Rattle.history.specs.Book.{answers}
use Rattle.reread.specs.Found.{Found, cells_after, meter_kind, time_after, unset}

module _ (image : List ℕ) (calls : List Call) (lent back items : List Answer) (len n : ℕ) (shown read : Result Look Refusal)
    (count : n ≡ min (length calls) (length lent)) (places : length lent ≡ length calls) (same : length back ≡ length lent) (long : length back ≡ len) where
  all_calls : take n calls ≡ calls
  all_calls = take_all n calls (omega arith)

  pub found : (cells : List ℕ) (time : Option ℕ) → take n back ≡ answers meter_kind europe unset (unedited (image_cells image)) (take n calls)
      → shown ≡ look_answer europe (cells_after image (take n calls)) (time_after (take n calls))
      → read ≡ look_answer europe cells time → cells ≡ cells_after image calls → time ≡ time_after calls
      → Found image calls (take len (back ++ drop (length back) items)) shown read
  found cells time a m r c t =
      let meter : shown ≡ look_answer europe (cells_after image calls) (time_after calls) = m ∙ ap (λ (cs : List Call). look_answer europe (cells_after image cs) (time_after cs)) all_calls in
      record {
        answers =
            take_at back (drop (length back) items) len long ∙ sym (take_all n back (omega arith)) ∙ a
            ∙ ap (answers meter_kind europe unset (unedited (image_cells image))) all_calls;
        meter = meter;
        reader = r ∙ ap (λ (cs : List ℕ). look_answer europe cs time) c ∙ ap (look_answer europe (cells_after image calls)) t ∙ sym meter;
      }
