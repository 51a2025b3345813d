use native.Mathlib.Omega.{arith}
use Rattle.page.proofs.SlotsBefore.{slots_small, slots_are}
use borrow.Author.Rules.{rules}
use Rattle.page.proofs.slots.count.Goals as goal

pub overflow_add-result : goal.overflow_add-result
overflow_add-result c = let s = c.args.configuration.now in omega (arith, slots_small s (search rules) c.count.ensures c.all_elements.ensures)

pub returns : goal.returns
returns c = slots_are c.args.configuration.now c.count.ensures c.all_elements.ensures
