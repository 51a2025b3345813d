use mathlib.Core.Path.{◌∙◌}
use Rattle.shelf.specs.Elements.{thresholds_at}
use Rattle.shelf.proofs.elements.thresholds_at.Goals as goal

pub returns : goal.returns
unfolding thresholds_at
returns c = c.four_at.ensures ∙ rw c.element_place.ensures
