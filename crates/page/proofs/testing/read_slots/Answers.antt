use Rattle.std.proofs.Common.{rules}
use Rattle.page.specs.Header.{configuration_tested, read_tested, headed}
use Rattle.page.specs.Slots.{slots_of}
use Rattle.page.proofs.SlotsCounted.{configuration_counted}
use Rattle.page.proofs.testing.read_slots.Goals as goal

pub and_test-requires : goal.and_test-requires
and_test-requires c = λ n u. let h = (configuration_counted c.args.configuration.now u c.configuration_slots.ensures).1.1 in search (rules, h)

pub returns : goal.returns
unfolding read_tested
returns c = let s = c.args.configuration.now in c.and_test.ensures (configuration_tested s) (headed s c.args.page.now c.args.code (slots_of s)) (slots_of s) c.configuration_slots.ensures (λ x h. search rules)
