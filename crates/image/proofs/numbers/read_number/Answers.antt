use Rattle.std.proofs.lemmas.List.{take_all}
use Rattle.std.specs.Int.Digits.{number_from_digits}
use Rattle.image.proofs.Digits.{read_more, read_small}
use Rattle.image.proofs.numbers.read_number.Goals as goal
use Rattle.std.proofs.Common.{ap, ◌∙◌, arith, rules}

pub overflow_mul-v : goal.overflow_mul-v
overflow_mul-v c = let s = read_small c.loop-b.b-index c.loop-b.v (omega arith) c.loop-b.invariant.1 in omega arith

pub overflow_add-v : goal.overflow_add-v
overflow_add-v c = let s = read_small c.loop-b.b-index c.loop-b.v (omega arith) c.loop-b.invariant.1 in omega arith

pub loop-b-preserved : goal.loop-b-preserved
loop-b-preserved c = read_more c.args.part.now c.loop-b.b-index c.loop-b.v c.from.result (omega arith) (search rules) (search rules) c.loop-b.invariant.0 c.loop-b.invariant.1

pub returns : goal.returns
returns c = c.loop-b.invariant.0 ∙ ap (number_from_digits 256) (take_all c.loop-b.b-index c.args.part.now (omega arith))
