use native.Mathlib.Omega.{arith}
use Rattle.page.proofs.SlotsCounted.{configuration_counted}
use Rattle.page.proofs.SlotBounds.{slots_bound}
use Rattle.descriptor_record.proofs.RewrittenTests.{no_configuration, entries_last}
use Rattle.descriptor_record.proofs.rewriting.test.Goals as goal

pub returns-in_default : goal.returns-in_default
returns-in_default c = let s = c.args in
    no_configuration s.configuration.now s.fields.now c.configuration_slots-configured.ensures c.in_default.is c.and.ensures

pub test_entries-requires : goal.test_entries-requires
test_entries-requires c = let k = c.args.configuration.now in
    let e = configuration_counted k c.in-Ok.is c.configuration_slots-configured.ensures in
    omega (arith, e.2, slots_bound k e.1.0)

pub returns : goal.returns
returns c = let s = c.args in
    entries_last s.configuration.now s.fields.now c.configuration_slots-configured.ensures c.in-Ok.is c.test_entries.ensures
