use Rattle.std.proofs.Common.{rules, ◌∙◌}
use Rattle.page.specs.Header.{read_tested}
use Rattle.page.specs.Slots.{slots_of}
use Rattle.page.proofs.SlotsCounted.{read_stages, read_there}
use Rattle.threshold_record.specs.Read.{bytes_tested, threshold_tested, threshold_read}
use Rattle.threshold_record.proofs.reading.test.Goals as goal

pub and_test_bytes-requires : goal.and_test_bytes-requires
and_test_bytes-requires c = λ n u.
    let h = read_there c.args.configuration.now c.args.page.now 0x05 u c.read_slots-counted.ensures in
    search rules

pub returns : goal.returns
unfolding threshold_read threshold_tested
returns c =
    let k = c.args.configuration.now in
    let p = c.args.page.now in
    let rest = bytes_tested k p (slots_of k) in
    c.and_test_bytes.ensures (read_tested k p 0x05) rest (slots_of k) c.read_slots-counted.ensures (λ x h. search rules)
    ∙ read_stages k p 0x05 rest
