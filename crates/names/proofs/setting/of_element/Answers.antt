use native.Mathlib.Omega.{arith}
use Rattle.names.proofs.SettingTests.{sizes_there, element_not_opened, element_refused, element_held, element_small, element_room, slot_there, slot_small, element_set}
use Rattle.names.proofs.setting.of_element.Goals as goal

pub returns-in_default : goal.returns-in_default
returns-in_default c = let s = c.args in
    element_not_opened s.shelf.now s.j s.text.now c.open_shelf-opened.ensures c.in_default.is

pub returns-in_default-tested : goal.returns-in_default-tested
returns-in_default-tested c = let s = c.args in
    element_refused s.shelf.now s.j s.text.now c.open_shelf-opened.ensures c.in-Some.is c.test-tested.ensures c.in_default-tested.is

pub overflow_cast-j : goal.overflow_cast-j
overflow_cast-j c = let s = c.args in
    omega (arith, element_small s.shelf.now s.j s.text.now c.open_shelf-opened.ensures c.in-Some.is c.test-tested.ensures c.in-Ok.is)

pub run_of-run-requires : goal.run_of-run-requires
run_of-run-requires c = let s = c.args in
    element_room s.shelf.now s.j s.text.now c.open_shelf-opened.ensures c.in-Some.is c.test-tested.ensures c.in-Ok.is

pub overflow_cast-j-2 : goal.overflow_cast-j-2
overflow_cast-j-2 c = let s = c.args in
    omega (arith, element_small s.shelf.now s.j s.text.now c.open_shelf-opened.ensures c.in-Some.is c.test-tested.ensures c.in-Ok.is)

pub overflow_cast-run : goal.overflow_cast-run
overflow_cast-run c = let s = c.args in
    omega (arith, slot_small s.shelf.now s.j s.text.now c.open_shelf-opened.ensures c.in-Some.is c.test-tested.ensures c.in-Ok.is c.run_of-run.ensures)

pub overflow_add-j : goal.overflow_add-j
overflow_add-j c = let s = c.args in
    omega (arith, slot_small s.shelf.now s.j s.text.now c.open_shelf-opened.ensures c.in-Some.is c.test-tested.ensures c.in-Ok.is c.run_of-run.ensures)

pub overflow_add-j-2 : goal.overflow_add-j-2
overflow_add-j-2 c = let s = c.args in
    omega (arith, slot_small s.shelf.now s.j s.text.now c.open_shelf-opened.ensures c.in-Some.is c.test-tested.ensures c.in-Ok.is c.run_of-run.ensures)

pub put-requires : goal.put-requires
put-requires c = let s = c.args in
    let z = sizes_there s.shelf.now s.j s.text.now c.open_shelf-opened.ensures c.in-Some.is in
    let l = slot_there s.shelf.now s.j s.text.now c.open_shelf-opened.ensures c.in-Some.is c.test-tested.ensures c.in-Ok.is c.run_of-run.ensures in
    record { shelf_value = z.0; n_value = z.2; i_bound = omega (arith, l); text_value = (element_held s.shelf.now s.j s.text.now c.open_shelf-opened.ensures c.in-Some.is c.test-tested.ensures c.in-Ok.is).1 }

pub returns : goal.returns
returns c = let s = c.args in
    element_set s.shelf.now s.j s.text.now c.open_shelf-opened.ensures c.in-Some.is c.test-tested.ensures c.in-Ok.is c.run_of-run.ensures c.put.ensures
