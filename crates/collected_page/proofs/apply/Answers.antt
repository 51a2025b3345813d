use Rattle.collected_page.proofs.Ending.{as_control, as_thresholds, as_other}
use Rattle.collected_page.proofs.apply.Goals as goal

pub returns-then-code-eq-CODE : goal.returns-then-code-eq-CODE
returns-then-code-eq-CODE c = let s = c.args in
    as_control s.code s.shelf.now s.page.now c.if-code-eq-CODE.true c.apply.ensures

pub returns-then-code-eq-CODE-2 : goal.returns-then-code-eq-CODE-2
returns-then-code-eq-CODE-2 c = let s = c.args in
    as_thresholds s.code s.shelf.now s.page.now c.if-code-eq-CODE.false c.if-code-eq-CODE-2.true c.apply-then-code-eq-CODE-2.ensures

pub returns-else-code-eq-CODE-2 : goal.returns-else-code-eq-CODE-2
returns-else-code-eq-CODE-2 c = let s = c.args in
    as_other s.code s.shelf.now s.page.now c.if-code-eq-CODE.false c.if-code-eq-CODE-2.false c.test_other.ensures c.of_page.ensures
