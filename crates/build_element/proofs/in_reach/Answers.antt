use Rattle.build_element.proofs.RequestBytes.{reach_is}
use Rattle.build_element.proofs.in_reach.Goals as goal

pub returns : goal.returns
returns c = let s = c.args in reach_is s.kind s.stored s.wanted c.of-s.ensures c.of-w.ensures
