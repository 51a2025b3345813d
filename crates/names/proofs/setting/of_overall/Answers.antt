use native.Mathlib.Omega.{arith}
use Rattle.names.proofs.SettingTests.{sizes_there, overall_not_opened, overall_refused, overall_held, type_small, types_room, start_there, start_small, overall_set}
use Rattle.names.proofs.setting.of_overall.Goals as goal

pub returns-in_default : goal.returns-in_default
returns-in_default c = let s = c.args in
    overall_not_opened s.shelf.now s.t s.text.now c.open_shelf-opened.ensures c.in_default.is

pub returns-in_default-tested : goal.returns-in_default-tested
returns-in_default-tested c = let s = c.args in
    overall_refused s.shelf.now s.t s.text.now c.open_shelf-opened.ensures c.in-Some.is c.test-tested.ensures c.in_default-tested.is

pub overflow_cast-t : goal.overflow_cast-t
overflow_cast-t c = let s = c.args in
    omega (arith, type_small s.shelf.now s.t s.text.now c.open_shelf-opened.ensures c.in-Some.is c.test-tested.ensures c.in-Ok.is)

pub elements_before-before-requires : goal.elements_before-before-requires
elements_before-before-requires c = let s = c.args in
    record { has_types = types_room s.shelf.now s.t s.text.now c.open_shelf-opened.ensures c.in-Some.is c.test-tested.ensures c.in-Ok.is; n_le_most_types = omega (arith, type_small s.shelf.now s.t s.text.now c.open_shelf-opened.ensures c.in-Some.is c.test-tested.ensures c.in-Ok.is) }

pub overflow_cast-t-2 : goal.overflow_cast-t-2
overflow_cast-t-2 c = let s = c.args in
    omega (arith, type_small s.shelf.now s.t s.text.now c.open_shelf-opened.ensures c.in-Some.is c.test-tested.ensures c.in-Ok.is)

pub overflow_add-before : goal.overflow_add-before
overflow_add-before c = let s = c.args in
    omega (arith, start_small s.shelf.now s.t s.text.now c.open_shelf-opened.ensures c.in-Some.is c.test-tested.ensures c.in-Ok.is c.elements_before-before.ensures)

pub put-requires : goal.put-requires
put-requires c = let s = c.args in
    let z = sizes_there s.shelf.now s.t s.text.now c.open_shelf-opened.ensures c.in-Some.is in
    record { shelf_value = z.0; n_value = z.2; i_bound = start_there s.shelf.now s.t s.text.now c.open_shelf-opened.ensures c.in-Some.is c.test-tested.ensures c.in-Ok.is c.elements_before-before.ensures; text_value = (overall_held s.shelf.now s.t s.text.now c.open_shelf-opened.ensures c.in-Some.is c.test-tested.ensures c.in-Ok.is).1 }

pub returns : goal.returns
returns c = let s = c.args in
    overall_set s.shelf.now s.t s.text.now c.open_shelf-opened.ensures c.in-Some.is c.test-tested.ensures c.in-Ok.is c.elements_before-before.ensures c.put.ensures
