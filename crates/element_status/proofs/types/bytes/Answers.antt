use Rattle.element_status.proofs.ByteLaws.{bytes_made}
use Rattle.element_status.proofs.types.bytes.Goals as goal

pub returns : goal.returns
returns c = let s = c.args in bytes_made s.kind s.x c.number.ensures c.four_of-e.ensures
