use Rattle.threshold_rows.proofs.RowTests.{slots_refused, slots_last}
use Rattle.threshold_rows.proofs.test_page.Goals as goal

pub returns-in-Err : goal.returns-in-Err
returns-in-Err c = let s = c.args in
    slots_refused s.configuration.now s.page.now s.n c.scan.ensures c.in-Err.is c.not_allowed.ensures

pub returns-in-Ok : goal.returns-in-Ok
returns-in-Ok c = let s = c.args in
    slots_last s.configuration.now s.page.now s.n c.scan.ensures c.in-Ok.is c.test.ensures c.of_page.ensures
