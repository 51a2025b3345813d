use native.Mathlib.Omega.{arith}
use Rattle.descriptor_page.proofs.PagePlaced.{no_shelf, shelf_sum, shelf_names, shelf_written}
use Rattle.descriptor_page.proofs.writing.write_shelf.Goals as goal

pub returns-in_default : goal.returns-in_default
returns-in_default c = let s = c.args in
    no_shelf s.shelf.now c.open_shelf-opened.ensures s.out.now c.in_default.is

pub overflow_add-n : goal.overflow_add-n
overflow_add-n c = let s = c.args in
    record { fits = omega (arith, shelf_sum s.shelf.now c.open_shelf-opened.ensures c.in-Some.is) }

pub length-requires : goal.length-requires
length-requires c = let s = c.args in
    (shelf_names s.shelf.now c.open_shelf-opened.ensures c.in-Some.is {first = c.element_place-first.result} (omega (arith, c.element_place-first.ensures))).1

pub write-requires : goal.write-requires
write-requires c = let s = c.args in
    let h = shelf_names s.shelf.now c.open_shelf-opened.ensures c.in-Some.is {first = c.element_place-first.result} (omega (arith, c.element_place-first.ensures)) in
    record { has_types = h.0; has_names = h.1; bytes_value = c.length.ensures }

pub returns : goal.returns
returns c = let s = c.args in
    shelf_written s.shelf.now c.open_shelf-opened.ensures c.in-Some.is c.element_place-first.ensures s.out.now c.write.ensures
