-- What the form of an order means: an accepted order is the bytes of Open, of some Puts and Checks, and of Commit or Discard.
-- A refused one begins with such commands up to the place named, where no command follows that may stand there.
use Rattle.std.specs.Prelude.{◌≡◌, ℕ, ◌+◌, ◌/◌, ◌%◌, ◌<◌, Bool, true, false, ◌&&◌, List, [], ◌∷◌, ◌++◌, length, drop, Some, Ok, Err, slice_index}
use Rattle.orders.specs.declared.command.Command.{Command}
use Rattle.orders.specs.declared.command.Command.TheVariants.{Open, Put, Check, Commit, Discard}
use Rattle.orders.specs.Form.{Form, Placed, command_at, size_of, stands, closes, form}

abbrev pub bytes_of : Command → List ℕ
bytes_of Open = 0x01 ∷ []
bytes_of (Put c v) = 0x10 ∷ c / 256 ∷ c % 256 ∷ v / 16777216 ∷ v / 65536 % 256 ∷ v / 256 % 256 ∷ v % 256 ∷ []
bytes_of Check = 0x20 ∷ []
bytes_of Commit = 0x30 ∷ []
bytes_of Discard = 0x40 ∷ []

-- the bytes of commands, one after the other
abbrev pub written : List Command → List ℕ
written [] = []
written (c ∷ cs) = bytes_of c ++ written cs

-- the commands with their places, from a place on
abbrev pub placed : ℕ → List Command → List Placed
placed p [] = []
placed p (c ∷ cs) = record { place = p; command = c } ∷ placed (p + size_of c) cs

-- Put or Check
abbrev pub between : Command → Bool
between Open = false
between (Put c v) = true
between Check = true
between Commit = false
between Discard = false

abbrev pub all_between : List Command → Bool
all_between [] = true
all_between (c ∷ cs) = between c && all_between cs

-- how an order begins: not at all, or with Open and then Puts and Checks
abbrev pub begins : List Command → Bool
begins [] = true
begins (Open ∷ cs) = all_between cs
begins (Put c v ∷ cs) = false
begins (Check ∷ cs) = false
begins (Commit ∷ cs) = false
begins (Discard ∷ cs) = false

pub record Accepted (order : List ℕ) (xs : List Placed) : Type 0 where
  pub start : List Command
  pub last : Command
  pub opens : begins (Open ∷ start) ≡ true
  pub ends : closes last ≡ true
  pub same : order ≡ written (Open ∷ (start ++ last ∷ []))
  pub commands : xs ≡ placed 0 (Open ∷ (start ++ last ∷ []))

pub record Faulty (order : List ℕ) (p : ℕ) : Type 0 where
  pub start : List Command
  pub rest : List ℕ
  pub opens : begins start ≡ true
  pub same : order ≡ written start ++ rest
  pub place : p ≡ length (written start)
  pub stuck : (c : Command) → command_at rest ≡ Some c → stands c p (length (drop (size_of c) rest)) ≡ false

abbrev pub Means : List ℕ → Form → Type 0
Means order (Ok xs) = Accepted order xs
Means order (Err p) = Faulty order p

abbrev pub Bytes : List ℕ → Type 0
Bytes xs = (i : ℕ) → slice_index xs i < 256

abbrev pub FormMeans : Type 0
FormMeans = (order : List ℕ) → Bytes order → Means order (form order)

-- what a Put has room for
abbrev pub Fit : Command → Type 0
Fit Open = Unit {0}
Fit (Put c v) = (c < 65536) × (v < 4294967296)
Fit Check = Unit {0}
Fit Commit = Unit {0}
Fit Discard = Unit {0}

abbrev pub AllFit : List Command → Type 0
AllFit [] = Unit {0}
AllFit (c ∷ cs) = Fit c × AllFit cs

-- and back: what is written in that way is read as it was written
abbrev pub WrittenReads : Type 0
WrittenReads = (start : List Command) (last : Command) → begins (Open ∷ start) ≡ true → closes last ≡ true → AllFit start → form (written (Open ∷ (start ++ last ∷ []))) ≡ Ok (placed 0 (Open ∷ (start ++ last ∷ [])))

-- and the place that is named is the only one that a faulty order has
abbrev pub FaultOnly : Type 0
FaultOnly = (order : List ℕ) (p : ℕ) → Bytes order → Faulty order p → form order ≡ Err p
