use Rattle.descriptor_record.proofs.RewrittenTests.{count_refused, entries_answered}
use Rattle.descriptor_record.proofs.rewriting.test_entries.Goals as goal

pub returns-in_default : goal.returns-in_default
returns-in_default c = let s = c.args in
    count_refused s.fields.now s.n c.test_count-count.ensures c.in_default.is c.and.ensures

pub returns : goal.returns
returns c = let s = c.args in
    entries_answered s.fields.now s.n c.test_count-count.ensures c.in-Ok.is c.page_size.ensures c.ok_or.ensures.value
