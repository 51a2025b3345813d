use Rattle.refusals.proofs.Stages.{page_count_refused, page_count_passed}
use Rattle.page.specs.Header.{configuration_tested}
use Rattle.page.specs.Slots.{slots_of}
use Rattle.page.proofs.SlotsCounted.{configuration_counted}
use Rattle.descriptor_record.specs.Read.{page_tested, names_read}
use Rattle.descriptor_record.proofs.reading.test.Goals as goal

pub returns-in_default : goal.returns-in_default
unfolding names_read
returns-in_default c = let s = c.args in
    let k = s.configuration.now in
    let p = s.page.now in
    page_count_refused (configuration_tested k) (slots_of k) c.configuration_slots-configured.ensures (page_tested k p)
    c.in_default.is c.and.ensures c.of_page.ensures

pub test_page-requires : goal.test_page-requires
test_page-requires c = let e = configuration_counted c.args.configuration.now c.in-Ok.is
    c.configuration_slots-configured.ensures in
    e.1.1

pub returns : goal.returns
unfolding names_read
returns c = let s = c.args in
    let k = s.configuration.now in
    let p = s.page.now in
    page_count_passed (configuration_tested k) (slots_of k) c.configuration_slots-configured.ensures (page_tested k p)
    c.in-Ok.is c.test_page.ensures
