-- What the form of an order means.
use Rattle.std.proofs.Common.{◌≡◌, ℕ, zero, suc, ◌+◌, ◌*◌, ◌/◌, ◌%◌, ◌<◌, ◌≤◌, true, false, not, eqb, leb, List, [], ◌∷◌, ◌++◌, length, get_or, drop, Some, None, Ok, Err, Option, sym, refl, ap, ◌∙◌, subst, ⊎_elim, append_assoc, arith, length-append, get_or-drop}
use Rattle.std.proofs.lemmas.Bool.{cases_Bool, cond_both, leb-true, eqb-true, eqb-false, and_parts}
use Rattle.orders.specs.declared.command.Command.{Command}
use Rattle.orders.specs.declared.command.Command.TheVariants.{Open, Put, Check, Commit, Discard}
use Rattle.orders.specs.Form.{Form, Placed, by_first, put_at, command_at, size_of, stands, closes, with_first, reads_on}
use Rattle.orders.specs.Written.{bytes_of, written, placed, between, all_between, Faulty, Means, Bytes, FormMeans}
use Rattle.orders.proofs.Reading.{reads_end, shorter, misplaced, closing, passed}

-- the bytes that a command is read from are its own
abbrev Own : List ℕ → Option Command → Type 0
Own xs None = Unit {0}
Own xs (Some c) = xs ≡ bytes_of c ++ drop (size_of c) xs

one_byte : (xs : List ℕ) (b : ℕ) → 1 ≤ length xs → get_or xs 0 0 ≡ b → xs ≡ b ∷ drop 1 xs
one_byte [] b h e = absurd (omega arith)
one_byte (x ∷ xs) b h e = ap (λ (y : ℕ). y ∷ xs) e

put_bytes : (xs : List ℕ) → Bytes xs → 7 ≤ length xs → get_or xs 0 0 ≡ 16 → xs ≡ bytes_of (put_at xs) ++ drop 7 xs
put_bytes [] t h e = absurd (omega arith)
put_bytes (a ∷ []) t h e = absurd (omega arith)
put_bytes (a ∷ b ∷ []) t h e = absurd (omega arith)
put_bytes (a ∷ b ∷ c ∷ []) t h e = absurd (omega arith)
put_bytes (a ∷ b ∷ c ∷ d ∷ []) t h e = absurd (omega arith)
put_bytes (a ∷ b ∷ c ∷ d ∷ f ∷ []) t h e = absurd (omega arith)
put_bytes (a ∷ b ∷ c ∷ d ∷ f ∷ g ∷ []) t h e = absurd (omega arith)
put_bytes (a ∷ b ∷ c ∷ d ∷ f ∷ g ∷ k ∷ xs) t h e =
    let tc : c < 256 = t 2 in
    let tf : f < 256 = t 4 in
    let tg : g < 256 = t 5 in
    let tk : k < 256 = t 6 in
    let e1 : b ≡ (b * 256 + c) / 256 = omega arith in
    let e2 : c ≡ (b * 256 + c) % 256 = omega arith in
    let e3 : d ≡ (((d * 256 + f) * 256 + g) * 256 + k) / 16777216 = omega arith in
    let e4 : f ≡ (((d * 256 + f) * 256 + g) * 256 + k) / 65536 % 256 = omega arith in
    let e5 : g ≡ (((d * 256 + f) * 256 + g) * 256 + k) / 256 % 256 = omega arith in
    let e6 : k ≡ (((d * 256 + f) * 256 + g) * 256 + k) % 256 = omega arith in
    λ i. e i ∷ e1 i ∷ e2 i ∷ e3 i ∷ e4 i ∷ e5 i ∷ e6 i ∷ xs

byte_own : (xs : List ℕ) → Bytes xs → 1 ≤ length xs → Own xs (by_first (get_or xs 0 0) xs)
byte_own xs t h =
    let b = get_or xs 0 0 in
    cond_both (eqb b 0x01) (Some Open) _ (Own xs) (λ e. one_byte xs 0x01 h (eqb-true b 0x01 e))
    (λ _. cond_both (eqb b 0x10) _ _ (Own xs) (λ e. cond_both (leb 7 (length xs)) (Some (put_at xs)) None (Own xs) (λ l. put_bytes xs t (leb-true 7 (length xs) l) (eqb-true b 0x10 e)) (λ _. tt))
    (λ _. cond_both (eqb b 0x20) (Some Check) _ (Own xs) (λ e. one_byte xs 0x20 h (eqb-true b 0x20 e))
    (λ _. cond_both (eqb b 0x30) (Some Commit) _ (Own xs) (λ e. one_byte xs 0x30 h (eqb-true b 0x30 e))
    (λ _. cond_both (eqb b 0x40) (Some Discard) None (Own xs) (λ e. one_byte xs 0x40 h (eqb-true b 0x40 e)) (λ _. tt)))))

own : (xs : List ℕ) (c : Command) → Bytes xs → command_at xs ≡ Some c → xs ≡ bytes_of c ++ drop (size_of c) xs
own xs c t e =
    subst (Own xs) e
    (cond_both (eqb (length xs) 0) None _ (Own xs) (λ _. tt)
    (λ some. byte_own xs t (omega (arith, eqb-false (length xs) 0 some))))

size_bytes : (c : Command) → length (bytes_of c) ≡ size_of c
size_bytes Open = refl
size_bytes (Put c v) = refl
size_bytes Check = refl
size_bytes Commit = refl
size_bytes Discard = refl

bytes_drop : (n : ℕ) (xs : List ℕ) → Bytes xs → Bytes (drop n xs)
bytes_drop n xs t i = rw (get_or-drop n xs i 0) (t (n + i))

none_left : (xs : List ℕ) → length xs ≡ 0 → xs ≡ []
none_left [] h = refl
none_left (x ∷ xs) h = absurd (omega arith)

-- the same of what follows Open
record Closed (place : ℕ) (bytes : List ℕ) (xs : List Placed) : Type 0 where
  start : List Command
  last : Command
  middle : all_between start ≡ true
  ends : closes last ≡ true
  same : bytes ≡ written (start ++ last ∷ [])
  commands : xs ≡ placed place (start ++ last ∷ [])

record Stuck (place : ℕ) (bytes : List ℕ) (p : ℕ) : Type 0 where
  start : List Command
  rest : List ℕ
  middle : all_between start ≡ true
  same : bytes ≡ written start ++ rest
  at : p ≡ place + length (written start)
  stuck : (c : Command) → command_at rest ≡ Some c → stands c p (length (drop (size_of c) rest)) ≡ false

abbrev Follows : ℕ → List ℕ → Form → Type 0
Follows place bytes (Ok xs) = Closed place bytes xs
Follows place bytes (Err p) = Stuck place bytes p

-- nothing may stand here
here : (place : ℕ) (bytes : List ℕ) → ((c : Command) → command_at bytes ≡ Some c → stands c place (length (drop (size_of c) bytes)) ≡ false) → Stuck place bytes place
here place bytes h = record { start = []; rest = bytes; middle = refl; same = refl; at = omega arith; stuck = h }

-- a Put or a Check, and then the others
one_more : (place : ℕ) (bytes : List ℕ) (c : Command) (f : Form) → bytes ≡ bytes_of c ++ drop (size_of c) bytes → between c ≡ true → Follows (place + size_of c) (drop (size_of c) bytes) f → Follows place bytes (with_first (record { place = place; command = c }) f)
one_more place bytes c (Ok xs) e b w = record {
  start = c ∷ w.start;
  last = w.last;
  middle = rw b w.middle;
  ends = w.ends;
  same = e ∙ ap (λ (ys : List ℕ). bytes_of c ++ ys) w.same;
  commands = ap (λ (ys : List Placed). record { place = place; command = c } ∷ ys) w.commands;
}
one_more place bytes c (Err p) e b w = record {
  start = c ∷ w.start;
  rest = w.rest;
  middle = rw b w.middle;
  same = e ∙ ap (λ (ys : List ℕ). bytes_of c ++ ys) w.same ∙ sym (append_assoc (bytes_of c) (written w.start) w.rest);
  at = omega (arith, w.at, length-append (bytes_of c) (written w.start), size_bytes c);
  stuck = w.stuck;
}

-- past the first place, a command that may stand there is one between, or closes
mid : (c : Command) (place after : ℕ) → 1 ≤ place → stands c place after ≡ true → closes c ≡ false → between c ≡ true
mid Open place after h s k = absurd (omega (arith, eqb-true place 0 s))
mid (Put c v) place after h s k = refl
mid Check place after h s k = refl
mid Commit place after h s k = let y : ◌≡◌ {A = ℕ} 0 1 = cc in absurd (omega arith)
mid Discard place after h s k = let y : ◌≡◌ {A = ℕ} 0 1 = cc in absurd (omega arith)

last_after : (c : Command) (place after : ℕ) → stands c place after ≡ true → closes c ≡ true → after ≡ 0
last_after Open place after s k = let y : ◌≡◌ {A = ℕ} 0 1 = cc in absurd (omega arith)
last_after (Put c v) place after s k = let y : ◌≡◌ {A = ℕ} 0 1 = cc in absurd (omega arith)
last_after Check place after s k = let y : ◌≡◌ {A = ℕ} 0 1 = cc in absurd (omega arith)
last_after Commit place after s k = eqb-true after 0 (and_parts (not (eqb place 0)) (eqb after 0) s).1
last_after Discard place after s k = eqb-true after 0 (and_parts (not (eqb place 0)) (eqb after 0) s).1

-- what may not stand here
wrong : (place : ℕ) (bytes : List ℕ) (c : Command) → command_at bytes ≡ Some c → stands c place (length (drop (size_of c) bytes)) ≡ false → (d : Command) → command_at bytes ≡ Some d → stands d place (length (drop (size_of d) bytes)) ≡ false
wrong place bytes c e s d f =
    let same : c ≡ d = cc in
    subst (λ (x : Command). stands x place (length (drop (size_of x) bytes)) ≡ false) same s

nothing : (place : ℕ) (bytes : List ℕ) → command_at bytes ≡ None → (d : Command) → command_at bytes ≡ Some d → stands d place (length (drop (size_of d) bytes)) ≡ false
nothing place bytes e d f = let y : ◌≡◌ {A = ℕ} 0 1 = cc in absurd (omega arith)

module _ (n : ℕ) (again : (place : ℕ) (bytes : List ℕ) → length bytes < n → 1 ≤ place → Bytes bytes → Follows place bytes (reads_on place bytes)) where
  step : (place : ℕ) (bytes : List ℕ) → length bytes < suc n → 1 ≤ place → Bytes bytes → (o : Option Command) → command_at bytes ≡ o → Follows place bytes (reads_on place bytes)
  step place bytes l h t None e = subst (Follows place bytes) (sym (reads_end place bytes e)) (here place bytes (nothing place bytes e))
  step place bytes l h t (Some c) e =
      let next = drop (size_of c) bytes in
      let o = own bytes c t e in
      ⊎_elim
      (λ (s : stands c place (length next) ≡ true).
      ⊎_elim
      (λ (k : closes c ≡ true).
      let gone : next ≡ [] = none_left next (last_after c place (length next) s k) in
      subst (Follows place bytes) (sym (closing place bytes next c e refl s k))
      (record { start = []; last = c; middle = refl; ends = k; same = o ∙ ap (λ (ys : List ℕ). bytes_of c ++ ys) gone; commands = refl }))
      (λ (k : closes c ≡ false).
      subst (Follows place bytes) (sym (passed place bytes next c e refl s k))
      (one_more place bytes c (reads_on (place + size_of c) next) o (mid c place (length next) h s k)
      (again (place + size_of c) next (omega (arith, shorter bytes c e)) (omega arith) (bytes_drop (size_of c) bytes t))))
      (cases_Bool (closes c)))
      (λ (s : stands c place (length next) ≡ false).
      subst (Follows place bytes) (sym (misplaced place bytes next c e refl s)) (here place bytes (wrong place bytes c e s)))
      (cases_Bool (stands c place (length next)))

follows : (n place : ℕ) (bytes : List ℕ) → length bytes < n → 1 ≤ place → Bytes bytes → Follows place bytes (reads_on place bytes)
follows zero place bytes l h t = absurd (omega arith)
follows (suc n) place bytes l h t = step n (follows n) place bytes l h t (command_at bytes) refl

faulty_here : (order : List ℕ) → ((c : Command) → command_at order ≡ Some c → stands c 0 (length (drop (size_of c) order)) ≡ false) → Faulty order 0
faulty_here order h = record { start = []; rest = order; opens = refl; same = refl; place = refl; stuck = h }

opened : (order : List ℕ) (f : Form) → order ≡ bytes_of Open ++ drop 1 order → Follows 1 (drop 1 order) f → Means order (with_first (record { place = 0; command = Open }) f)
opened order (Ok xs) e w = record {
  start = w.start;
  last = w.last;
  opens = w.middle;
  ends = w.ends;
  same = e ∙ ap (λ (ys : List ℕ). bytes_of Open ++ ys) w.same;
  commands = ap (λ (ys : List Placed). record { place = 0; command = Open } ∷ ys) w.commands;
}
opened order (Err p) e w = record {
  start = Open ∷ w.start;
  rest = w.rest;
  opens = w.middle;
  same = e ∙ ap (λ (ys : List ℕ). bytes_of Open ++ ys) w.same;
  place = omega (arith, w.at);
  stuck = w.stuck;
}

first : (order : List ℕ) (c : Command) → Bytes order → command_at order ≡ Some c → stands c 0 (length (drop (size_of c) order)) ≡ true → Means order (reads_on 0 order)
first order Open t e s =
    subst (Means order) (sym (passed 0 order (drop 1 order) Open e refl s refl))
    (opened order (reads_on 1 (drop 1 order)) (own order Open t e) (follows (suc (length (drop 1 order))) 1 (drop 1 order) (omega arith) (omega arith) (bytes_drop 1 order t)))
first order (Put c v) t e s = let y : ◌≡◌ {A = ℕ} 0 1 = cc in absurd (omega arith)
first order Check t e s = let y : ◌≡◌ {A = ℕ} 0 1 = cc in absurd (omega arith)
first order Commit t e s = let y : ◌≡◌ {A = ℕ} 0 1 = cc in absurd (omega arith)
first order Discard t e s = let y : ◌≡◌ {A = ℕ} 0 1 = cc in absurd (omega arith)

whole : (order : List ℕ) → Bytes order → (o : Option Command) → command_at order ≡ o → Means order (reads_on 0 order)
whole order t None e = subst (Means order) (sym (reads_end 0 order e)) (faulty_here order (nothing 0 order e))
whole order t (Some c) e =
    ⊎_elim
    (λ (s : stands c 0 (length (drop (size_of c) order)) ≡ true). first order c t e s)
    (λ (s : stands c 0 (length (drop (size_of c) order)) ≡ false). subst (Means order) (sym (misplaced 0 order (drop (size_of c) order) c e refl s)) (faulty_here order (wrong 0 order c e s)))
    (cases_Bool (stands c 0 (length (drop (size_of c) order))))

pub form_means : FormMeans
form_means order t = whole order t (command_at order) refl
