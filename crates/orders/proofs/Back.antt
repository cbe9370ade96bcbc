-- What is written is read as it was written.
use Rattle.std.proofs.Common.{◌≡◌, ℕ, ◌+◌, ◌*◌, ◌/◌, ◌%◌, ◌<◌, ◌≤◌, true, false, eqb, leb, List, [], ◌∷◌, ◌++◌, length, drop, Some, None, Ok, Err, Option, sym, refl, ap, ◌∙◌, subst, append_assoc, arith, length-append, get_or-drop}
use Rattle.std.proofs.lemmas.Bool.{ne_eqb, le-leb, and_parts}
use Rattle.orders.specs.declared.command.Command.{Command}
use Rattle.orders.specs.declared.command.Command.TheVariants.{Open, Put, Check, Commit, Discard}
use Rattle.orders.specs.Form.{command_at, size_of, stands, closes, with_first, reads_on}
use Rattle.orders.specs.Written.{bytes_of, written, placed, between, all_between, begins, Fit, AllFit, Bytes, WrittenReads, FaultOnly}
use Rattle.orders.proofs.Reading.{closing, passed, reads_end, misplaced}

some_left : (b : ℕ) (xs : List ℕ) → eqb (length (b ∷ xs)) 0 ≡ false
some_left b xs = ne_eqb (length (b ∷ xs)) 0 (λ e. omega arith)

read_back : (c : Command) (rest : List ℕ) → Fit c → command_at (bytes_of c ++ rest) ≡ Some c
read_back Open rest f = rw (some_left 0x01 rest)
read_back (Put c v) rest f =
    let xs = bytes_of (Put c v) ++ rest in
    let long : leb 7 (length xs) ≡ true = le-leb 7 (length xs) (omega arith) in
    let e : c / 256 * 256 + c % 256 ≡ c = omega arith in
    let d : ((v / 16777216 * 256 + v / 65536 % 256) * 256 + v / 256 % 256) * 256 + v % 256 ≡ v = omega arith in
    rw (some_left 0x10 (drop 1 xs), long) (λ i. Some (Put (e i) (d i)))
read_back Check rest f = rw (some_left 0x20 rest)
read_back Commit rest f = rw (some_left 0x30 rest)
read_back Discard rest f = rw (some_left 0x40 rest)

left_over : (c : Command) (rest : List ℕ) → rest ≡ drop (size_of c) (bytes_of c ++ rest)
left_over Open rest = refl
left_over (Put c v) rest = refl
left_over Check rest = refl
left_over Commit rest = refl
left_over Discard rest = refl

later : (place : ℕ) → 1 ≤ place → eqb place 0 ≡ false
later place h = ne_eqb place 0 (λ e. omega arith)

mid_stands : (c : Command) (place after : ℕ) → 1 ≤ place → between c ≡ true → stands c place after ≡ true
mid_stands Open place after h b = let y : ◌≡◌ {A = ℕ} 0 1 = cc in absurd (omega arith)
mid_stands (Put c v) place after h b = rw (later place h)
mid_stands Check place after h b = rw (later place h)
mid_stands Commit place after h b = let y : ◌≡◌ {A = ℕ} 0 1 = cc in absurd (omega arith)
mid_stands Discard place after h b = let y : ◌≡◌ {A = ℕ} 0 1 = cc in absurd (omega arith)

mid_stays : (c : Command) → between c ≡ true → closes c ≡ false
mid_stays Open b = refl
mid_stays (Put c v) b = refl
mid_stays Check b = refl
mid_stays Commit b = let y : ◌≡◌ {A = ℕ} 0 1 = cc in absurd (omega arith)
mid_stays Discard b = let y : ◌≡◌ {A = ℕ} 0 1 = cc in absurd (omega arith)

last_fit : (c : Command) → closes c ≡ true → Fit c
last_fit Open k = tt
last_fit (Put c v) k = let y : ◌≡◌ {A = ℕ} 0 1 = cc in absurd (omega arith)
last_fit Check k = tt
last_fit Commit k = tt
last_fit Discard k = tt

last_stands : (c : Command) (place : ℕ) → 1 ≤ place → closes c ≡ true → stands c place 0 ≡ true
last_stands Open place h k = let y : ◌≡◌ {A = ℕ} 0 1 = cc in absurd (omega arith)
last_stands (Put c v) place h k = let y : ◌≡◌ {A = ℕ} 0 1 = cc in absurd (omega arith)
last_stands Check place h k = let y : ◌≡◌ {A = ℕ} 0 1 = cc in absurd (omega arith)
last_stands Commit place h k = rw (later place h)
last_stands Discard place h k = rw (later place h)

tail_reads : (start : List Command) (last : Command) (place : ℕ) → 1 ≤ place → all_between start ≡ true → closes last ≡ true → AllFit start → reads_on place (written (start ++ last ∷ [])) ≡ Ok (placed place (start ++ last ∷ []))
tail_reads [] last place h b k f =
    closing place (bytes_of last ++ []) [] last (read_back last [] (last_fit last k)) (left_over last []) (last_stands last place h k) k
tail_reads (c ∷ cs) last place h b k f =
    let parts = and_parts (between c) (all_between cs) b in
    let rest = written (cs ++ last ∷ []) in
    passed place (bytes_of c ++ rest) rest c (read_back c rest f.0) (left_over c rest) (mid_stands c place (length rest) h parts.0) (mid_stays c parts.0)
    ∙ ap (with_first (record { place = place; command = c })) (tail_reads cs last (place + size_of c) (omega arith) parts.1 k f.1)

pub written_reads : WrittenReads
written_reads start last b k f =
    let rest = written (start ++ last ∷ []) in
    passed 0 (bytes_of Open ++ rest) rest Open (read_back Open rest tt) refl refl refl
    ∙ ap (with_first (record { place = 0; command = Open })) (tail_reads start last 1 (omega arith) b k f)

-- bytes have room for no more
fit_bytes : (c : Command) (rest : List ℕ) → Bytes (bytes_of c ++ rest) → Fit c
fit_bytes Open rest t = tt
fit_bytes (Put c v) rest t =
    let a : c / 256 < 256 = t 1 in
    let b : v / 16777216 < 256 = t 3 in
    (omega arith, omega arith)
fit_bytes Check rest t = tt
fit_bytes Commit rest t = tt
fit_bytes Discard rest t = tt

bytes_left : (c : Command) (rest : List ℕ) → Bytes (bytes_of c ++ rest) → Bytes rest
bytes_left c rest t i = rw (left_over c rest) (rw (get_or-drop (size_of c) (bytes_of c ++ rest) i 0) (t (size_of c + i)))

abbrev Stops : ℕ → List ℕ → Type 0
Stops place rest = (c : Command) → command_at rest ≡ Some c → stands c place (length (drop (size_of c) rest)) ≡ false

stops_at : (place : ℕ) (rest : List ℕ) → Stops place rest → (o : Option Command) → command_at rest ≡ o → reads_on place rest ≡ Err place
stops_at place rest h None e = reads_end place rest e
stops_at place rest h (Some c) e = misplaced place rest (drop (size_of c) rest) c e refl (h c e)

bytes_size : (c : Command) → length (bytes_of c) ≡ size_of c
bytes_size Open = refl
bytes_size (Put c v) = refl
bytes_size Check = refl
bytes_size Commit = refl
bytes_size Discard = refl

tail_stops : (start : List Command) (rest : List ℕ) (place p : ℕ) → 1 ≤ place → all_between start ≡ true → Bytes (written start ++ rest) → p ≡ place + length (written start) → Stops p rest → reads_on place (written start ++ rest) ≡ Err p
tail_stops [] rest place p h b t e s =
    let q : p ≡ place = omega arith in
    ap (λ (k : ℕ). reads_on k rest) (sym q) ∙ stops_at p rest s (command_at rest) refl
tail_stops (c ∷ cs) rest place p h b t e s =
    let parts = and_parts (between c) (all_between cs) b in
    let more = written cs ++ rest in
    let joined : (bytes_of c ++ written cs) ++ rest ≡ bytes_of c ++ more = append_assoc (bytes_of c) (written cs) rest in
    let t' : Bytes (bytes_of c ++ more) = subst Bytes joined t in
    let q : p ≡ place + size_of c + length (written cs) = omega (arith, e, length-append (bytes_of c) (written cs), bytes_size c) in
    ap (reads_on place) joined
    ∙ passed place (bytes_of c ++ more) more c (read_back c more (fit_bytes c more t')) (left_over c more) (mid_stands c place (length more) h parts.0) (mid_stays c parts.0)
    ∙ ap (with_first (record { place = place; command = c })) (tail_stops cs rest (place + size_of c) p (omega arith) parts.1 (bytes_left c more t') q s)

all_stops : (start : List Command) (rest : List ℕ) (p : ℕ) → begins start ≡ true → Bytes (written start ++ rest) → p ≡ length (written start) → Stops p rest → reads_on 0 (written start ++ rest) ≡ Err p
all_stops [] rest p b t e s = ap (λ (k : ℕ). reads_on k rest) (sym e) ∙ stops_at p rest s (command_at rest) refl
all_stops (Open ∷ cs) rest p b t e s =
    let more = written cs ++ rest in
    passed 0 (bytes_of Open ++ more) more Open (read_back Open more tt) refl refl refl
    ∙ ap (with_first (record { place = 0; command = Open })) (tail_stops cs rest 1 p (omega arith) b (bytes_left Open more t) (omega (arith, e)) s)
all_stops (Put c v ∷ cs) rest p b t e s = let y : ◌≡◌ {A = ℕ} 0 1 = cc in absurd (omega arith)
all_stops (Check ∷ cs) rest p b t e s = let y : ◌≡◌ {A = ℕ} 0 1 = cc in absurd (omega arith)
all_stops (Commit ∷ cs) rest p b t e s = let y : ◌≡◌ {A = ℕ} 0 1 = cc in absurd (omega arith)
all_stops (Discard ∷ cs) rest p b t e s = let y : ◌≡◌ {A = ℕ} 0 1 = cc in absurd (omega arith)

pub fault_only : FaultOnly
fault_only order p t f = ap (reads_on 0) f.same ∙ all_stops f.start f.rest p f.opens (subst Bytes f.same t) f.place f.stuck
