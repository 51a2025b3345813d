use Rattle.shelf_formed.proofs.Tests.{spare_said}
use Rattle.shelf_formed.proofs.spare_clear.Goals as goal

pub returns : goal.returns
returns c = let s = c.args in spare_said s.shelf.now s.j c.element_place.ensures c.big32_at.ensures
