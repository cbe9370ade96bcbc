use Rattle.std.proofs.Common.{◌≡◌, ℕ, ◌+◌, ◌-◌, ◌*◌, ◌≤◌, true, false, eqb, leb, List, length, get_or, take, drop, Some, arith, rules}
use Rattle.std.proofs.lemmas.Bool.Decides.{nat_tests}
use Rattle.orders.specs.declared.command.Command.TheVariants.{Put}
use Rattle.orders.specs.Form.{command_at}
use Rattle.std.proofs.lemmas.List.{take_all, length-drop}
use Rattle.orders.proofs.command.next_command.Goals as goal

rest : (n : ℕ) (xs : List ℕ) → take (length xs - n) (drop n xs) ≡ drop n xs
rest n xs = take_all (length xs - n) (drop n xs) (simp length-drop (omega arith))

put : (xs : List ℕ) (a b : ℕ) → 7 ≤ length xs → get_or xs 0 0 ≡ 16
    → a ≡ get_or xs 1 0 * 256 + get_or xs 2 0
    → b ≡ ((get_or xs 3 0 * 256 + get_or xs 4 0) * 256 + get_or xs 5 0) * 256 + get_or xs 6 0
    → command_at xs ≡ Some (Put a b)
put xs a b h e p q =
    let l : leb 7 (length xs) ≡ true = grind (arith, nat_tests) in
    let z : eqb (length xs) 0 ≡ false = grind (arith, nat_tests) in
    rw (z, e, l, p, q)

pub returns-in-16 : goal.returns-in-16
returns-in-16 c = (put c.args.bytes.now c.from.result c.from_be_bytes-in-16.result (search rules) (search rules) (omega arith) (omega arith), rest 7 c.args.bytes.now)

pub returns-in-64 : goal.returns-in-64
returns-in-64 c = (search rules, rest 1 c.args.bytes.now)

pub returns-in-48 : goal.returns-in-48
returns-in-48 c = (search rules, rest 1 c.args.bytes.now)

pub returns-in-32 : goal.returns-in-32
returns-in-32 c = (search rules, rest 1 c.args.bytes.now)

pub returns-in-1 : goal.returns-in-1
returns-in-1 c = (search rules, rest 1 c.args.bytes.now)
