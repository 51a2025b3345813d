use Rattle.std.proofs.Common.{rules}
use Rattle.page.specs.Header.{page_tested}
use Rattle.page.specs.Slots.{slots_of}
use Rattle.control_page.specs.Tests.{bytes_tested, control_tested}
use Rattle.control_page.proofs.Tests.{page_room}
use Rattle.control_page.proofs.testing.test.Goals as goal

pub and_test_bytes-requires : goal.and_test_bytes-requires
and_test_bytes-requires c = λ n u. let h = page_room c.args.shelf.now c.args.page.now c.page_slots-counted.ensures u in search rules

pub returns : goal.returns
unfolding control_tested
returns c =
    let s = c.args.shelf.now in
    let p = c.args.page.now in
    c.and_test_bytes.ensures (page_tested s p 0x02) (bytes_tested s p (slots_of s)) (slots_of s) c.page_slots-counted.ensures (λ x h. search rules)
