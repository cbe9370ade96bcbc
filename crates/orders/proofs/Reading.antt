-- How the bytes of an order read, command by command.
use Rattle.std.proofs.Common.{◌≡◌, ℕ, zero, suc, ◌+◌, ◌<◌, ◌≤◌, true, false, eqb, leb, List, [], ◌∷◌, length, get_or, drop, Some, None, Ok, Err, Option, sym, refl, ap, ◌∙◌, subst, ⊎_elim, arith, length-drop}
use Rattle.std.proofs.lemmas.Bool.{cases_Bool, cond_both, leb-true, eqb-false}
use Rattle.orders.specs.declared.command.Command.{Command}
use Rattle.orders.specs.declared.command.Command.TheVariants.{Open, Put, Check, Commit, Discard}
use Rattle.orders.specs.Form.{Form, Placed, by_first, command_at, size_of, stands, closes, with_first, one, reads, reads_on, fault_of}

pub size_pos : (c : Command) → 1 ≤ size_of c
size_pos Open = omega arith
size_pos (Put c v) = omega arith
size_pos Check = omega arith
size_pos Commit = omega arith
size_pos Discard = omega arith

-- where a command begins, there is a byte
pub some_byte : (bytes : List ℕ) (c : Command) → command_at bytes ≡ Some c → 1 ≤ length bytes
some_byte [] c e = let z : ◌≡◌ {A = ℕ} 0 1 = cc in omega arith
some_byte (b ∷ bs) c e = omega arith

pub shorter : (bytes : List ℕ) (c : Command) → command_at bytes ≡ Some c → length (drop (size_of c) bytes) < length bytes
shorter bytes c e = omega (arith, some_byte bytes c e, size_pos c, length-drop (size_of c) bytes)

-- a command stands in the bytes that it is read from
abbrev Whole : ℕ → Option Command → Type 0
Whole n None = Unit {0}
Whole n (Some c) = size_of c ≤ n

byte_whole : (xs : List ℕ) (b : ℕ) → 1 ≤ length xs → Whole (length xs) (by_first b xs)
byte_whole xs b h =
    cond_both (eqb b 0x01) (Some Open) _ (Whole (length xs)) (λ _. h)
    (λ _. cond_both (eqb b 0x10) _ _ (Whole (length xs)) (λ _. cond_both (leb 7 (length xs)) _ None (Whole (length xs)) (λ e. leb-true 7 (length xs) e) (λ _. tt))
    (λ _. cond_both (eqb b 0x20) (Some Check) _ (Whole (length xs)) (λ _. h)
    (λ _. cond_both (eqb b 0x30) (Some Commit) _ (Whole (length xs)) (λ _. h)
    (λ _. cond_both (eqb b 0x40) (Some Discard) None (Whole (length xs)) (λ _. h) (λ _. tt)))))

pub command_whole : (xs : List ℕ) (c : Command) → command_at xs ≡ Some c → size_of c ≤ length xs
command_whole xs c e =
    subst (Whole (length xs)) e
    (cond_both (eqb (length xs) 0) None _ (Whole (length xs)) (λ _. tt)
    (λ some. byte_whole xs (get_or xs 0 0) (omega (arith, eqb-false (length xs) 0 some))))

reads_none : (n place : ℕ) (bytes : List ℕ) → command_at bytes ≡ None → reads (suc n) place bytes ≡ Err place
unfolding reads
reads_none n place bytes e = rw e

reads_some : (n place : ℕ) (bytes : List ℕ) (c : Command) → command_at bytes ≡ Some c → reads (suc n) place bytes ≡ one place (length (drop (size_of c) bytes)) c (reads n (place + size_of c) (drop (size_of c) bytes))
unfolding reads
reads_some n place bytes c e = rw e

-- it does not matter how many commands are allowed for, if there are enough
enough_at : (n m place : ℕ) (bytes : List ℕ) → ((q : ℕ) (rest : List ℕ) → length rest < n → length rest < m → reads n q rest ≡ reads m q rest) → length bytes < suc n → length bytes < suc m → (o : Option Command) → command_at bytes ≡ o → reads (suc n) place bytes ≡ reads (suc m) place bytes
enough_at n m place bytes ih h k None e = reads_none n place bytes e ∙ sym (reads_none m place bytes e)
enough_at n m place bytes ih h k (Some c) e =
    let s = shorter bytes c e in
    reads_some n place bytes c e
    ∙ ap (one place (length (drop (size_of c) bytes)) c) (ih (place + size_of c) (drop (size_of c) bytes) (omega arith) (omega arith))
    ∙ sym (reads_some m place bytes c e)

enough : (n m place : ℕ) (bytes : List ℕ) → length bytes < n → length bytes < m → reads n place bytes ≡ reads m place bytes
enough zero m place bytes h k = absurd (omega arith)
enough (suc n) zero place bytes h k = absurd (omega arith)
enough (suc n) (suc m) place bytes h k = enough_at n m place bytes (λ q rest. enough n m q rest) h k (command_at bytes) refl

pub reads_end : (place : ℕ) (bytes : List ℕ) → command_at bytes ≡ None → reads_on place bytes ≡ Err place
unfolding reads_on
reads_end place bytes e = reads_none (length bytes) place bytes e

pub reads_more : (place : ℕ) (bytes : List ℕ) (c : Command) → command_at bytes ≡ Some c → reads_on place bytes ≡ one place (length (drop (size_of c) bytes)) c (reads_on (place + size_of c) (drop (size_of c) bytes))
unfolding reads_on
reads_more place bytes c e =
    let s = shorter bytes c e in
    reads_some (length bytes) place bytes c e
    ∙ ap (one place (length (drop (size_of c) bytes)) c) (enough (length bytes) (suc (length (drop (size_of c) bytes))) (place + size_of c) (drop (size_of c) bytes) (omega arith) (omega arith))

-- one turn: what is left of an order gives the whole, before and after the command
module _ (place : ℕ) (bytes next : List ℕ) (c : Command) (found : command_at bytes ≡ Some c) (rest : next ≡ drop (size_of c) bytes) where
  turn : reads_on place bytes ≡ one place (length next) c (reads_on (place + size_of c) next)
  turn = reads_more place bytes c found ∙ ap (λ (xs : List ℕ). one place (length xs) c (reads_on (place + size_of c) xs)) (sym rest)

  pub misplaced : stands c place (length next) ≡ false → reads_on place bytes ≡ Err place
  misplaced h = turn ∙ rw h

  module _ (fits : stands c place (length next) ≡ true) where
    pub closing : closes c ≡ true → reads_on place bytes ≡ Ok (record { place = place; command = c } ∷ [])
    closing h = turn ∙ rw (fits, h)

    pub passed : closes c ≡ false → reads_on place bytes ≡ with_first (record { place = place; command = c }) (reads_on (place + size_of c) next)
    passed h = turn ∙ rw (fits, h)

  pub shorter_rest : length next < length bytes
  shorter_rest = rw rest (shorter bytes c found)

  pub rest_length : length next + size_of c ≡ length bytes
  rest_length = omega (arith, ap length rest, length-drop (size_of c) bytes, command_whole bytes c found)

pub fault_with_first : (x : Placed) (f : Form) → fault_of (with_first x f) ≡ fault_of f
fault_with_first x (Ok cs) = refl
fault_with_first x (Err p) = refl

-- an order without a fault, read from a place on
module _ (place : ℕ) (bytes next : List ℕ) (c : Command) (found : command_at bytes ≡ Some c) (rest : next ≡ drop (size_of c) bytes) (sound : fault_of (reads_on place bytes) ≡ None) where
  pub sound_stands : stands c place (length next) ≡ true
  sound_stands =
      ⊎_elim
      (λ (h : stands c place (length next) ≡ true). h)
      (λ (h : stands c place (length next) ≡ false).
      let z : ◌≡◌ {A = Option ℕ} (Some place) None = sym (ap fault_of (misplaced place bytes next c found rest h)) ∙ sound in
      let y : ◌≡◌ {A = ℕ} 0 1 = cc in absurd (omega arith))
      (cases_Bool (stands c place (length next)))

  pub sound_last : closes c ≡ true → reads_on place bytes ≡ Ok (record { place = place; command = c } ∷ [])
  sound_last h = closing place bytes next c found rest sound_stands h

  pub sound_on : closes c ≡ false → reads_on place bytes ≡ with_first (record { place = place; command = c }) (reads_on (place + size_of c) next)
  sound_on h = passed place bytes next c found rest sound_stands h

  pub sound_next : closes c ≡ false → fault_of (reads_on (place + size_of c) next) ≡ None
  sound_next h = sym (fault_with_first (record { place = place; command = c }) (reads_on (place + size_of c) next)) ∙ sym (ap fault_of (sound_on h)) ∙ sound

pub sound_some : (place : ℕ) (bytes : List ℕ) → fault_of (reads_on place bytes) ≡ None → command_at bytes ≡ None → ⊥
sound_some place bytes sound e =
    let z : ◌≡◌ {A = Option ℕ} (Some place) None = sym (ap fault_of (reads_end place bytes e)) ∙ sound in
    let y : ◌≡◌ {A = ℕ} 0 1 = cc in omega arith
