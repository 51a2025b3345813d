use Rattle.build_element.proofs.RequestBytes.{request_bytes_is}
use Rattle.build_element.proofs.request_bytes.Goals as goal

pub returns : goal.returns
returns c = let s = c.args in request_bytes_is s.kind s.request c.bytes-e.ensures
