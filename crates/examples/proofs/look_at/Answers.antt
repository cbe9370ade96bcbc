use Rattle.schedule.proofs.Both.{of_cells}
use Rattle.summer.specs.Laws.{europe}
use Rattle.examples.specs.Table.{cells}
use Rattle.examples.proofs.Worked.{shown_so}
use Rattle.examples.proofs.look_at.Goals as goal

pub returns : goal.returns
unfolding cells
returns c =
    record {
      answer = of_cells cells europe c.args.second c.look.result _ c.look.ensures.answer c.new.ensures.answer;
      examples = shown_so;
    }
