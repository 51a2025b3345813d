use Rattle.page.proofs.HeaderTests.{head_of_slots}
use Rattle.page.proofs.header.put.Goals as goal

pub returns : goal.returns
returns c = let s = c.args in
    head_of_slots s.configuration.now s.out.now s.code s.own s.n c.slot_place.ensures c.put_of.ensures
