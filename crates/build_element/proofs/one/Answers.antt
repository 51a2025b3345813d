use Rattle.build_element.proofs.RequestBytes.{one_silent, one_own}
use Rattle.build_element.proofs.one.Goals as goal

pub returns-then-brings : goal.returns-then-brings
returns-then-brings c = let s = c.args in one_silent s.kind s.overall s.stored s.wanted c.brings.ensures c.if-brings.true

pub returns-else-brings : goal.returns-else-brings
returns-else-brings c = let s = c.args in one_own s.kind s.overall s.stored s.wanted c.brings.ensures c.if-brings.false c.own.ensures
