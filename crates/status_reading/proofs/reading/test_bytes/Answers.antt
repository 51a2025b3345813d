use Rattle.status_reading.proofs.Refusals.{bytes_tested_lem}
use Rattle.status_reading.proofs.reading.test_bytes.Goals as goal

pub returns : goal.returns
returns c = let s = c.args in
    bytes_tested_lem s.configuration.now s.page.now s.n c.first_offence.ensures c.slot_place.ensures
    c.searched.ensures
