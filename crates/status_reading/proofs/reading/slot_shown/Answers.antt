use Rattle.status_reading.proofs.Loops.{shows_overall, shows_element}
use Rattle.status_reading.proofs.reading.slot_shown.Goals as goal

pub returns-then-at : goal.returns-then-at
returns-then-at c = let s = c.args in shows_overall s.page.now s.i s.at c.slot_place.ensures c.four_at-e.ensures c.if-at.true c.code_alone.ensures

pub returns-else-at : goal.returns-else-at
returns-else-at c = let s = c.args in shows_element s.page.now s.i s.at c.slot_place.ensures c.four_at-e.ensures c.if-at.false c.entry.ensures
