use mathlib.Core.Path.{◌∙◌}
use Rattle.control_page.proofs.testing.slot_offending.Goals as goal

pub returns : goal.returns
returns c = c.offending.ensures ∙ rw (c.four_at.ensures, c.slot_place.ensures)
