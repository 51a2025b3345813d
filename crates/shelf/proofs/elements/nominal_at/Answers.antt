use mathlib.Core.Path.{◌∙◌}
use Rattle.shelf.specs.Elements.{nominal_at}
use Rattle.shelf.proofs.elements.nominal_at.Goals as goal

pub returns : goal.returns
unfolding nominal_at
returns c = c.big16_at.ensures ∙ rw c.element_place.ensures
