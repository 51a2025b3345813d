use Rattle.build_element.proofs.RequestBytes.{two_tries, four_tries}
use Rattle.build_element.proofs.tries.Goals as goal

pub returns-then-of-eq0 : goal.returns-then-of-eq0
returns-then-of-eq0 c = let s = c.args in two_tries s.kind s.wanted c.of.ensures c.if-of-eq0.true

pub returns-else-of-eq0 : goal.returns-else-of-eq0
returns-else-of-eq0 c = let s = c.args in four_tries s.kind s.wanted c.of.ensures c.if-of-eq0.false
