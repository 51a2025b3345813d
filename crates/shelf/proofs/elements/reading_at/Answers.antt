use mathlib.Core.Path.{◌∙◌}
use Rattle.shelf.specs.Elements.{reading_at}
use Rattle.shelf.proofs.elements.reading_at.Goals as goal

pub returns : goal.returns
unfolding reading_at
returns c = c.big16_at.ensures ∙ rw c.element_place.ensures
