use Rattle.std.proofs.Common.{rules}
use Rattle.page.specs.Header.{configuration_tested}
use Rattle.page.specs.Slots.{slots_of}
use Rattle.page.proofs.SlotsCounted.{configuration_counted}
use Rattle.threshold_record.specs.Rewritten.{entries_tested, record_tested}
use Rattle.threshold_record.proofs.rewriting.slots_tested.Goals as goal

pub and_test-requires : goal.and_test-requires
and_test-requires c = λ n u. let h = configuration_counted c.args.configuration.now u c.configuration_slots-counted.ensures in search (rules, h.1, h.2)

pub returns : goal.returns
unfolding record_tested
returns c =
    let k = c.args.configuration.now in
    c.and_test.ensures (configuration_tested k) (entries_tested k c.args.fields.now (slots_of k)) (slots_of k) c.configuration_slots-counted.ensures (λ x h. search rules)
