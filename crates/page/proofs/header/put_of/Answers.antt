use Rattle.page.proofs.HeaderTests.{head_is}
use Rattle.page.proofs.header.put_of.Goals as goal

pub returns : goal.returns
returns c = let s = c.args in
    head_is s.configuration.now s.out.now s.code s.own s.bytes
    c.put_four.ensures c.four_at.ensures
    c.put_four-2.ensures
