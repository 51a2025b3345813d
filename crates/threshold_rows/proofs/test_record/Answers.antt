use Rattle.threshold_rows.specs.Rows.{in_record}
use Rattle.threshold_rows.proofs.RowTests.{record_refused, record_last}
use Rattle.threshold_rows.proofs.test_record.Goals as goal

pub returns-in_default : goal.returns-in_default
returns-in_default c = let s = c.args in
    record_refused s.configuration.now s.fields.now in_record s.n c.scan-scanned.ensures c.in_default.is

pub returns : goal.returns
returns c = let s = c.args in
    record_last s.configuration.now s.fields.now in_record s.n c.scan-scanned.ensures
    c.in-Ok.is
    c.test.ensures
