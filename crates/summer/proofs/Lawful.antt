-- The tests of both laws are the laws.
use Rattle.std.proofs.Common.{◌≡◌, ℕ, ◌+◌, Bool, ℤ, pos, Decides, sym, subst}
use Rattle.summer.specs.Sundays.{IsLastSunday, IsFirstSunday, IsSecondSunday, first_sunday, last_sunday}
use Rattle.summer.specs.Laws.{EuropeanSummer, AmericanSummer, europe, america, march, october, november, standard_time}
use Rattle.summer.specs.Months.{last_in, last_only, first_in, first_only, second_in, second_only}
use Rattle.summer.proofs.Spans.{lawful}

pub european : (o : ℤ) (s : ℕ) (r : Bool) → r ≡ europe o s → Decides r (EuropeanSummer s)
european o s r e =
    subst (λ (b : Bool). Decides b (EuropeanSummer s)) (sym e)
    (lawful (λ k. IsLastSunday (march k)) (λ k. IsLastSunday (october k)) 1 1 (λ k. last_sunday (march k)) (λ k. last_sunday (october k))
    (λ k. last_in (march k)) (λ k. last_only (march k)) (λ k. last_in (october k)) (λ k. last_only (october k)) (pos s))

pub american : (o : ℤ) (s : ℕ) (r : Bool) → r ≡ america o s → Decides r (AmericanSummer o s)
american o s r e =
    subst (λ (b : Bool). Decides b (AmericanSummer o s)) (sym e)
    (lawful (λ k. IsSecondSunday (march k)) (λ k. IsFirstSunday (november k)) 2 1 (λ k. first_sunday (march k) + 7) (λ k. first_sunday (november k))
    (λ k. second_in (march k)) (λ k. second_only (march k)) (λ k. first_in (november k)) (λ k. first_only (november k)) (standard_time o s))
