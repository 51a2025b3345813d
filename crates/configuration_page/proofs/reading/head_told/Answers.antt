use native.Mathlib.Omega.{arith}
use Rattle.configuration_page.proofs.TextStarts.{told_head, past_head}
use Rattle.configuration_page.proofs.reading.head_told.Goals as goal

pub returns-then-t-types_on : goal.returns-then-t-types_on
returns-then-t-types_on c = let s = c.args in told_head s.page.now s.t (omega (arith, c.if-t-types_on.true, c.types_on.ensures)) c.header_on-e.ensures

pub returns-else-t-types_on : goal.returns-else-t-types_on
returns-else-t-types_on c = let s = c.args in past_head s.page.now s.t (omega (arith, c.if-t-types_on.false, c.types_on.ensures))
