use Rattle.shelf.proofs.TypeRuns.{run_first}
use Rattle.shelf.proofs.types.first_run.Goals as goal

pub returns : goal.returns
returns c = run_first c.args.shelf.now c.elements_of-end.ensures c.run_with.ensures
