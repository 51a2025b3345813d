use Rattle.shelf_formed.specs.Formed.{head_formed}
use Rattle.shelf_formed.proofs.head_formed.Goals as goal

pub returns : goal.returns
unfolding head_formed
returns c = rw c.four_at-e.ensures
