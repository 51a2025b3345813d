use native.Mathlib.Omega.{arith}
use Rattle.refusals.proofs.Stages.{stopped, gone_on}
use Rattle.record_head.specs.Head.{count_tested}
use Rattle.page.proofs.SlotBounds.{slots_bound}
use Rattle.threshold_rows.specs.Rows.{in_record, rows_tested}
use Rattle.threshold_record.specs.Rewritten.{entries_tested}
use Rattle.threshold_record.proofs.rewriting.test_entries.Goals as goal

pub returns-in_default : goal.returns-in_default
unfolding entries_tested
returns-in_default c = let s = c.args in
    let r = s.fields.now in
    stopped (count_tested r s.n) (rows_tested s.configuration.now r in_record s.n) c.test_count-counted.ensures
    c.in_default.is

pub test_record-requires : goal.test_record-requires
test_record-requires c = let b = slots_bound c.args.configuration.now c.requires.has_front.0 in
    (c.requires.has_front, omega (arith, c.requires.n_value), omega (arith, c.requires.n_value, b))

pub returns : goal.returns
unfolding entries_tested
returns c = let s = c.args in
    let r = s.fields.now in
    gone_on (count_tested r s.n) (rows_tested s.configuration.now r in_record s.n) c.test_count-counted.ensures
    c.in-Ok.is c.test_record.ensures
