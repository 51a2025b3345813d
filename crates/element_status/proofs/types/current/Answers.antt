use Rattle.element_status.proofs.ByteLaws.{current_by}
use Rattle.element_status.proofs.types.current.Goals as goal

pub returns : goal.returns
returns c = let s = c.args in
    current_by s.reading s.nominal s.t c.of.ensures c.of_current-v.ensures c.voltage_bytes.ensures
