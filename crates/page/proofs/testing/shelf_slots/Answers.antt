use native.Mathlib.Omega.{arith}
use Rattle.page.proofs.SlotsCounted.{no_shelf, shelf_sum, shelf_slots}
use Rattle.page.proofs.testing.shelf_slots.Goals as goal

pub returns-in_default : goal.returns-in_default
returns-in_default c = no_shelf c.args.shelf.now c.open_shelf-opened.ensures c.in_default.is

pub overflow_add-result : goal.overflow_add-result
overflow_add-result c = omega
    (arith, shelf_sum c.args.shelf.now c.open_shelf-opened.ensures c.in-Some.is)

pub returns : goal.returns
returns c = shelf_slots c.args.shelf.now c.open_shelf-opened.ensures c.in-Some.is
