use Rattle.element.specs.Verdict.{detected}
use Rattle.element_status.proofs.ByteLaws.{second_lit}
use Rattle.element_status.proofs.types.second_byte.Goals as goal

pub returns : goal.returns
returns c = let s = c.args in
    second_lit s.set.flags1 s.low (detected s.v.code) c.join.ensures c.fail_lit.ensures
