use Rattle.schedule.proofs.Both.{seen_twice}
use Rattle.schedule.proofs.laws.looks_at.Goals as goal

pub returns-clause-steady : goal.returns-clause-steady
returns-clause-steady g c = seen_twice _ _ c.args.second c.args.later c.look.result c.look-2.result c.look.ensures.answer c.look-2.ensures.answer
