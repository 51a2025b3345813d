use Rattle.threshold_page_out.specs.Tests.{bytes_tested, thresholds_tested}
use Rattle.page.specs.Header.{page_tested}
use Rattle.page.specs.Slots.{slots_of}
use Rattle.refusals.proofs.Stages.{page_count_refused, page_count_passed}
use Rattle.threshold_page_out.proofs.Tests.{page_room}
use Rattle.threshold_page_out.proofs.testing.test.Goals as goal

pub returns-in_default : goal.returns-in_default
unfolding thresholds_tested
returns-in_default c = let s = c.args in
    let f = s.shelf.now in
    let p = s.page.now in
    page_count_refused (page_tested f p 0x05) (slots_of f) c.page_slots-tested.ensures (bytes_tested f p)
    c.in_default.is c.and.ensures c.of_page.ensures

pub test_bytes-requires : goal.test_bytes-requires
test_bytes-requires c = let s = c.args in let all = page_room s.shelf.now s.page.now c.page_slots-tested.ensures c.in-Ok.is in record { has_page = all.0; n_value = all.1 }

pub returns : goal.returns
unfolding thresholds_tested
returns c = let s = c.args in
    let f = s.shelf.now in
    let p = s.page.now in
    page_count_passed (page_tested f p 0x05) (slots_of f) c.page_slots-tested.ensures (bytes_tested f p)
    c.in-Ok.is c.test_bytes.ensures
