use Rattle.shelf_formed.proofs.Tests.{not_spare, judged}
use Rattle.shelf_formed.proofs.element_formed.Goals as goal

pub returns-then-not-spare_clear : goal.returns-then-not-spare_clear
returns-then-not-spare_clear c = let s = c.args in not_spare s.shelf.now s.j c.spare_clear.ensures (c.if-not-spare_clear.true)

pub returns : goal.returns
returns c = judged c.args.shelf.now c.args.j c.requires.kind_value c.spare_clear.ensures
    (c.if-not-spare_clear.false) c.settings_at-e.ensures
    c.thresholds_at-t.ensures c.reading_at-reading.ensures c.nominal_at-nominal.ensures
    c.are_formed.ensures
