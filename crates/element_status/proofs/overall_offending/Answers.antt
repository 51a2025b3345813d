use mathlib.Core.Path.{◌∙◌}
use Rattle.element.specs.Status.{overall_offending}
use Rattle.element_status.proofs.overall_offending.Goals as goal

pub returns : goal.returns
unfolding overall_offending
returns c = c.first_of.ensures ∙ rw c.code_allowed.ensures
