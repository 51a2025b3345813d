use mathlib.Core.Path.{◌∙◌}
use Rattle.shelf.specs.Elements.{settings_put}
use Rattle.shelf.proofs.elements.put_settings.Goals as goal

pub returns : goal.returns
unfolding settings_put
returns c = c.put_four.ensures ∙ rw c.element_place.ensures
