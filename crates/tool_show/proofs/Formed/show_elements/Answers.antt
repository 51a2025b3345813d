use Rattle.shelf.proofs.TypeRuns.{run_on}
use Rattle.tool_show.proofs.Formed.show_elements.Goals as goal

pub loop-j-preserved : goal.loop-j-preserved
loop-j-preserved g c = run_on c.args.self.block.now c.loop-j.j c.run_to-run.ensures
