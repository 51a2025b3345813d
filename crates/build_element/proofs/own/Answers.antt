use Rattle.build_element.proofs.RequestBytes.{own_is}
use Rattle.build_element.proofs.own.Goals as goal

pub returns : goal.returns
returns c = let s = c.args in own_is s.kind s.stored s.wanted c.of-s.ensures c.of-w.ensures c.turning-code.ensures c.request.ensures c.request_bytes.ensures
