use native.Mathlib.Omega.{arith}
use Rattle.shelf_formed.proofs.ElementPut.{length-formed}
use Rattle.page.proofs.HeaderTests.{shelf_formed, shelf_has}
use Rattle.build_page.proofs.Refusals.{shelf_refused, other_number, as_many, records_last}
use Rattle.build_page.proofs.testing.wish.Goals as goal

pub returns-in_default : goal.returns-in_default
returns-in_default c = let s = c.args in
    shelf_refused s.shelf.now s.wanted.now c.shelf-tested.ensures c.in_default.is

pub all_elements-n-requires : goal.all_elements-n-requires
all_elements-n-requires c = shelf_has c.args.shelf.now c.shelf-tested.ensures c.in-Ok.is

pub returns-in_default-number : goal.returns-in_default-number
returns-in_default-number c = let s = c.args in
    other_number s.shelf.now s.wanted.now c.shelf-tested.ensures c.in-Ok.is c.all_elements-n.ensures
    c.test_number-number.ensures c.in_default-number.is

pub test_records-requires : goal.test_records-requires
test_records-requires c = let s = c.args in
    let n = c.all_elements-n.ensures in
    let f = shelf_formed s.shelf.now c.shelf-tested.ensures c.in-Ok.is in
    let m = as_many s.shelf.now s.wanted.now c.shelf-tested.ensures c.in-Ok.is n
    c.test_number-number.ensures c.in-Ok-number.is in
    record { n_in_bounds = omega (arith, n, length-formed s.shelf.now f); n_in_bounds_2 = omega (arith, m) }

pub returns : goal.returns
returns c = let s = c.args in
    records_last s.shelf.now s.wanted.now c.shelf-tested.ensures c.in-Ok.is
    c.all_elements-n.ensures c.test_number-number.ensures c.in-Ok-number.is
    c.test_records.ensures
