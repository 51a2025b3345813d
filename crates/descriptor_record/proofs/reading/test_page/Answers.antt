use mathlib.Core.Path.{sym, ◌∙◌}
use Rattle.refusals.proofs.Stages.{page_stopped, page_gone_on}
use Rattle.descriptor_record.specs.Read.{head_tested, bytes_tested, page_tested}
use Rattle.descriptor_record.proofs.Refusals.{bytes_there}
use Rattle.descriptor_record.proofs.reading.test_page.Goals as goal

pub returns-in_default : goal.returns-in_default
unfolding page_tested
returns-in_default c = let s = c.args in
    page_stopped (head_tested s.configuration.now s.page.now s.n) (bytes_tested s.page.now s.n) c.test_head-head.ensures
    c.in_default.is c.of_page.ensures

pub test_bytes-requires : goal.test_bytes-requires
test_bytes-requires c = let s = c.args in let all = bytes_there s.configuration.now s.page.now s.n c.type_inv.page (sym c.test_head-head.ensures ∙ c.in-Ok.is) in record { page_len = all.0; page_len_bound = all.1 }

pub returns : goal.returns
unfolding page_tested
returns c = let s = c.args in
    page_gone_on (head_tested s.configuration.now s.page.now s.n) (bytes_tested s.page.now s.n) c.test_head-head.ensures
    c.in-Ok.is c.test_bytes.ensures
