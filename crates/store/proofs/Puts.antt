-- Puts of values that fit.
use Rattle.std.proofs.Common.{◌≡◌, ℕ, ◌^◌, ◌<◌, true, List, [], ◌∷◌, length, set, sym, refl, ap, ◌∙◌, ⊎_elim}
use Rattle.layout.specs.Layout.{in_range}
use Rattle.std.proofs.lemmas.List.{set_past}
use Rattle.std.proofs.lemmas.Bool.{cases_lt, le-ltb, lt-ltb}
use Rattle.store.specs.Cells.{put_cells}
use Rattle.store.specs.Entries.{InRange, overwritten, puts_cells}
use Rattle.store.specs.declared.entry.Entry.{Entry}

-- it is written, or there is no such cell
pub put_fits : (cs : List ℕ) (w : ℕ → ℕ) (c v : ℕ) → v < 256 ^ w c → put_cells cs w c v ≡ set cs c v
put_fits cs w c v k =
    ⊎_elim
    (λ below. rw (lt-ltb c (length cs) below, lt-ltb v (256 ^ w c) k))
    (λ past. let none : put_cells cs w c v ≡ cs = rw (le-ltb c (length cs) past) in none ∙ sym (set_past cs c v past))
    (cases_lt c (length cs))

-- entries in range fit, so each is written, or has no cell
pub puts_in_range : (w : ℕ → ℕ) → ((c v : ℕ) → in_range c v ≡ true → v < 256 ^ w c) → (cs : List ℕ) (es : List Entry) → InRange es → puts_cells cs w es ≡ overwritten cs es
puts_in_range w fits cs [] h = refl
puts_in_range w fits cs (e ∷ es) h =
    ap (λ (x : List ℕ). puts_cells x w es) (put_fits cs w e.cell e.value (fits e.cell e.value h.0))
    ∙ puts_in_range w fits (set cs e.cell e.value) es h.1
