use mathlib.Core.Path.{◌∙◌}
use Rattle.shelf.specs.Elements.{thresholds_put}
use Rattle.shelf.proofs.elements.put_thresholds.Goals as goal

pub returns : goal.returns
unfolding thresholds_put
returns c = c.put_four.ensures ∙ rw c.element_place.ensures
