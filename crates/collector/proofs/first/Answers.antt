use Rattle.collector.proofs.Putting.{first_told}
use Rattle.collector.proofs.first.Goals as goal

pub returns : goal.returns
returns c = first_told c.args.collector.now c.requires.has_room c.args.n c.requires.n_le_most_kept
