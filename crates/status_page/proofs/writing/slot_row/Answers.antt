use native.Mathlib.Omega.{arith}
use Rattle.status_page.proofs.Loops.{row_overall, row_element}
use Rattle.status_page.proofs.writing.slot_row.Goals as goal

pub status_at-requires : goal.status_at-requires
status_at-requires c = omega (arith, c.requires.0, c.requires.1 c.if-at.false)

pub returns-then-at : goal.returns-then-at
returns-then-at c = let s = c.args in row_overall s.shelf.now s.at c.if-at.true c.worst.ensures

pub returns-else-at : goal.returns-else-at
returns-else-at c = let s = c.args in row_element s.shelf.now s.at c.if-at.false c.status_at.ensures
