use Rattle.std.proofs.Common.{rules}
use Rattle.page.specs.Header.{shelf_tested, page_tested, headed}
use Rattle.page.specs.Slots.{slots_of}
use Rattle.page.proofs.SlotsCounted.{shelf_counted}
use Rattle.page.proofs.testing.page_slots.Goals as goal

pub and_test-requires : goal.and_test-requires
and_test-requires c = λ n u. let h = (shelf_counted c.args.shelf.now u c.shelf_slots.ensures).1.1 in search (rules, h)

pub returns : goal.returns
unfolding page_tested
returns c = let s = c.args.shelf.now in c.and_test.ensures (shelf_tested s) (headed s c.args.page.now c.args.code (slots_of s)) (slots_of s) c.shelf_slots.ensures (λ x h. search rules)
