use Rattle.threshold_page_out.proofs.Tests.{ordered_is}
use Rattle.threshold_page_out.proofs.testing.element_ordered.Goals as goal

pub returns : goal.returns
returns c = let s = c.args in ordered_is s.shelf.now s.page.now s.j c.requires.at_value c.taken_at.ensures c.are_ordered.ensures
