-- A meter and a reader that are alike look alike.
use Rattle.std.proofs.Common.{◌≡◌, ℕ, ◌+◌, ◌-◌, ◌≤◌, List, Some, None, Ok, Option, Result, sym, refl, ap, ◌∙◌, subst, arith}
use Rattle.refusal.specs.declared.refusal.Refusal.{Refusal}
use Rattle.clock.specs.Setting.{Kind}
use Rattle.clock.specs.Time.{Sound}
use Rattle.tables.specs.Cells.{cell_at, timetable}
use Rattle.schedule.specs.Looks.{Rule, SameRule, look_at, onward}
use Rattle.schedule.specs.declared.answer.Look.{Look}
use Rattle.schedule.proofs.Agree.{agreeing}
use Rattle.schedule.proofs.Steadying.{steady}
use Rattle.engine.specs.Looks.{look_answer}
use Rattle.history.specs.declared.calls.Call.{Call}
use Rattle.history.specs.declared.calls.Answer.{Answer}
use Rattle.history.specs.History.{Meaning, Lived}
use Rattle.archive.specs.Law.{Alike, defined, Confirmed}
use Rattle.archive.proofs.Written.{overwritten_by}

within : (t span : ℕ) (o : Option ℕ) → o ≡ Some t → Sound (o, span) → t ≤ 4294967295
within t span o e s = let h : t + span ≤ 4294967295 = subst (λ (x : Option ℕ). Sound (x, span)) e s in omega arith

look_same : (f g : Rule) (cells : List ℕ) (o : Option ℕ) (span : ℕ) → SameRule f g → Sound (o, span) → look_answer g cells o ≡ look_answer f cells o
look_same f g cells None span h s = refl
look_same f g cells (Some t) span h s = ap Ok (sym (agreeing (cell_at cells) f g t h (omega arith)))

module _ (x y : Meaning) (alike : Alike x y) where
  read_by : (o : Option ℕ) (span : ℕ) → y.time.0 ≡ o → Sound (o, span) → defined y ≡ look_answer x.rule x.book.cells o
  read_by o span e s =
      ap (λ (t : Option ℕ). look_answer y.rule y.book.cells t) e
      ∙ ap (λ (cs : List ℕ). look_answer y.rule cs o) alike.cells
      ∙ look_same x.rule y.rule x.book.cells o span alike.rule s

  pub agree : Sound x.time → y.time.0 ≡ x.time.0 → defined y ≡ defined x
  agree s e = read_by x.time.0 x.time.1 e s

  pub repeats : Sound y.time → (t u : ℕ) (look : Look) → x.time.0 ≡ Some t → y.time.0 ≡ Some u → defined x ≡ Ok look → t ≤ u → u ≤ look.last_second → defined y ≡ Ok (onward (u - t) look)
  repeats s t u look ht hu hx le last =
      let shown : Ok (look_at x.book.cells x.rule t) ≡ Ok look = ap (look_answer x.rule x.book.cells) (sym ht) ∙ hx in
      let same : look_at x.book.cells x.rule t ≡ look = cc in
      read_by (Some u) y.time.1 hu (subst (λ (o : Option ℕ). Sound (o, y.time.1)) hu s)
      ∙ ap Ok (steady (timetable (cell_at x.book.cells)) x.rule t u le (subst (λ (l : Look). u ≤ l.last_second) (sym same) last)
      ∙ ap (onward (u - t)) same)

pub confirmed : {kind : Kind} {start : Meaning} {calls : List Call} {meter reader : Meaning} {out : List Answer} {shown read : Result Look Refusal}
    → Sound meter.time → Sound reader.time → Lived kind start calls meter out → shown ≡ defined meter → read ≡ defined reader
    → Confirmed kind start calls meter reader out shown read
confirmed {start = start} {calls = calls} {meter = meter} {reader = reader} sm sr lived dm dr = record {
  history = lived;
  committed = overwritten_by start.book calls meter.book.cells (λ i. (lived.book i).cells);
  sound = sm;
  meter_sees = dm;
  reader_sees = dr;
  agreement = λ a e. dr ∙ agree meter reader a sm e ∙ sym dm;
  constancy = λ a t u look ht hu hx le last. dr ∙ repeats meter reader a sr t u look ht hu (sym dm ∙ hx) le last;
}
