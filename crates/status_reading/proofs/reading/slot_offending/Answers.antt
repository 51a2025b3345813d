use Rattle.status_reading.proofs.Loops.{offends_overall, offends_element}
use Rattle.status_reading.proofs.reading.slot_offending.Goals as goal

pub returns-then-at : goal.returns-then-at
returns-then-at c = let s = c.args in offends_overall s.page.now s.i s.at c.slot_place.ensures c.four_at-e.ensures c.if-at.true c.overall_offending.ensures

pub returns-else-at : goal.returns-else-at
returns-else-at c = let s = c.args in offends_element s.page.now s.i s.at c.slot_place.ensures c.four_at-e.ensures c.if-at.false c.offending.ensures
