-- The form of a work order.
use Rattle.std.specs.Prelude.{ℕ, zero, suc, ◌+◌, ◌*◌, Bool, true, false, cond, not, ◌&&◌, List, [], ◌∷◌, length, drop, Some, None, Ok, Err, Option, Result, ◌==◌, nat_le, slice_index}
use Rattle.orders.specs.declared.command.Command.{Command}
use Rattle.orders.specs.declared.command.Command.TheVariants.{Open, Put, Check, Commit, Discard}

-- a command's bytes
abbrev pub size_of : Command → ℕ
size_of Open = 1
size_of (Put c v) = 7
size_of Check = 1
size_of Commit = 1
size_of Discard = 1

-- 2 bytes of cell and 4 of value, high byte first
abbrev pub put_at : List ℕ → Command
put_at xs =
    Put (slice_index xs 1 * 256 + slice_index xs 2)
    (((slice_index xs 3 * 256 + slice_index xs 4) * 256 + slice_index xs 5) * 256 + slice_index xs 6)

abbrev pub by_first : ℕ → List ℕ → Option Command
by_first b xs =
    cond (b == 0x01) (Some Open)
    (cond (b == 0x10) (cond (nat_le 7 (length xs)) (Some (put_at xs)) None)
    (cond (b == 0x20) (Some Check)
    (cond (b == 0x30) (Some Commit)
    (cond (b == 0x40) (Some Discard) None))))

-- the command that the bytes begin with, if they begin with a whole one
abbrev pub command_at : List ℕ → Option Command
command_at xs = cond (length xs == 0) None (by_first (slice_index xs 0) xs)

-- Open stands first and only there; Commit or Discard stands last and only there.
-- Of a command: its place, and how many bytes come after it.
abbrev pub stands : Command → ℕ → ℕ → Bool
stands Open place after = place == 0
stands (Put c v) place after = not (place == 0)
stands Check place after = not (place == 0)
stands Commit place after = not (place == 0) && after == 0
stands Discard place after = not (place == 0) && after == 0

abbrev pub closes : Command → Bool
closes Open = false
closes (Put c v) = false
closes Check = false
closes Commit = true
closes Discard = true

-- a command and the place of its first byte
pub record Placed : Type 0 where
  pub place : ℕ
  pub command : Command

-- the commands, or the place of the first fault
abbrev pub Form : Type 0
Form = Result (List Placed) ℕ

abbrev pub with_first : Placed → Form → Form
with_first c (Ok cs) = Ok (c ∷ cs)
with_first c (Err p) = Err p

-- one command, and then the others: at the place, with the bytes after it, and how the others read
abbrev pub one : ℕ → ℕ → Command → Form → Form
one place after c others =
    cond (stands c place after)
    (cond (closes c) (Ok (record { place = place; command = c } ∷ [])) (with_first (record { place = place; command = c }) others))
    (Err place)

-- the bytes begin with no command, or with one
abbrev pub begun : ℕ → List ℕ → Option Command → (Command → Form) → Form
begun place bytes None others = Err place
begun place bytes (Some c) others = one place (length (drop (size_of c) bytes)) c (others c)

-- how the bytes read that stand from the place on, n commands at most
unfoldable pub reads : ℕ → ℕ → List ℕ → Form
reads zero place bytes = Err place
reads (suc n) place bytes = begun place bytes (command_at bytes) (λ c. reads n (place + size_of c) (drop (size_of c) bytes))

-- the bytes from the place on: there are no more commands than bytes
unfoldable pub reads_on : ℕ → List ℕ → Form
reads_on place bytes = reads (suc (length bytes)) place bytes

abbrev pub form : List ℕ → Form
form order = reads_on 0 order

abbrev pub fault_of : Form → Option ℕ
fault_of (Ok cs) = None
fault_of (Err p) = Some p
