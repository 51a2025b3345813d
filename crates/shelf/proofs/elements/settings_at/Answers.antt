use mathlib.Core.Path.{◌∙◌}
use Rattle.shelf.specs.Elements.{settings_at}
use Rattle.shelf.proofs.elements.settings_at.Goals as goal

pub returns : goal.returns
unfolding settings_at
returns c = c.four_at.ensures ∙ rw c.element_place.ensures
