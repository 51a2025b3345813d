use Rattle.threshold_record.specs.Read.{threshold_read, threshold_record}
use Rattle.refusals.proofs.Left.{read_handed}
use mathlib.Core.Path.{sym, ◌∙◌}
use Rattle.threshold_record.proofs.reading.read.Goals as goal

pub hand_over-requires : goal.hand_over-requires
hand_over-requires c = sym c.test-tested.ensures ∙ c.in-Ok.is

pub returns : goal.returns
returns c = let s = c.args in
    let k = s.configuration.now in
    let p = s.page.now in
    read_handed (threshold_read k p) (threshold_record k p) s.fields.now c.test-tested.ensures
    c.in-Ok.is c.hand_over.ensures
