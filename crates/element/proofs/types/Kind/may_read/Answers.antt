use Rattle.element.specs.Types.{reading_allowed}
use Rattle.element.proofs.types.Kind.may_read.Goals as goal

pub returns : goal.returns
unfolding reading_allowed
returns c = rw c.rules.ensures
