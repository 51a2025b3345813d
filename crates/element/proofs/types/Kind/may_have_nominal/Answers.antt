use Rattle.element.specs.Types.{nominal_allowed}
use Rattle.element.proofs.types.Kind.may_have_nominal.Goals as goal

pub returns : goal.returns
unfolding nominal_allowed
returns c = rw c.rules-rules.ensures
