use Rattle.std.proofs.Common.{rules, ◌∙◌}
use Rattle.page.specs.Header.{read_tested}
use Rattle.page.specs.Slots.{slots_of}
use Rattle.page.proofs.SlotsCounted.{read_stages, read_there}
use Rattle.status_reading.specs.Read.{bytes_tested, status_tested, status_read}
use Rattle.status_reading.proofs.reading.test.Goals as goal

pub and_test_bytes-requires : goal.and_test_bytes-requires
and_test_bytes-requires c = λ n u.
    let h = read_there c.args.configuration.now c.args.page.now 0x02 u c.read_slots-counted.ensures in
    search rules

pub returns : goal.returns
unfolding status_read status_tested
returns c =
    let k = c.args.configuration.now in
    let p = c.args.page.now in
    let rest = bytes_tested k p (slots_of k) in
    c.and_test_bytes.ensures (read_tested k p 0x02) rest (slots_of k) c.read_slots-counted.ensures (λ x h. search rules)
    ∙ read_stages k p 0x02 rest
