use native.Mathlib.Omega.{arith}
use Rattle.shelf_formed.proofs.ElementPut.{shelf_there}
use Rattle.page.proofs.HeaderTests.{head_length}
use Rattle.build_page.proofs.Refusals.{no_room, room, page_built, page_left}
use Rattle.build_page.proofs.writing.write.Goals as goal

pub count-n-requires : goal.count-n-requires
count-n-requires c = (shelf_there c.args.shelf.now c.requires.shelf_value).1

pub returns-in_default : goal.returns-in_default
returns-in_default c = let s = c.args in let all = no_room s.shelf.now s.wanted.now s.out.now c.count-n.ensures c.slot_place.ensures c.fit-fit.ensures
    c.in_default.is c.and.ensures in record { value = all.0; out_after = all.1 }

pub put-requires : goal.put-requires
put-requires c = let p = c.slot_place.ensures in
    let r = room c.args.shelf.now c.args.wanted.now c.args.out.now c.count-n.ensures p c.fit-fit.ensures c.in-Ok.is in
    record { has_types = (shelf_there c.args.shelf.now c.requires.shelf_value).1; in_bounds = omega (arith, p, r.0) }

pub put_slots-selects-requires : goal.put_slots-selects-requires
put_slots-selects-requires c = let e = c.count-n.ensures in
    let p = c.slot_place.ensures in
    let r = room c.args.shelf.now c.args.wanted.now c.args.out.now e p c.fit-fit.ensures c.in-Ok.is in
    let h = head_length c.args.shelf.now c.args.out.now 2 0 _ c.put.ensures in
    record { has_page = (c.requires.shelf_value, omega (arith, e, p, r.0, h)); n_value = e; shelf_in_bounds = c.requires.shelf_in_bounds }

pub returns : goal.returns
returns c = let s = c.args in
    let e = c.count-n.ensures in
    let p = c.slot_place.ensures in
    let r = room s.shelf.now s.wanted.now s.out.now e p c.fit-fit.ensures c.in-Ok.is in
    let w = c.put_slots-selects in record { value = page_built s.shelf.now s.wanted.now s.out.now e p r.0 r.1 w.ensures.value; out_after = page_left s.shelf.now s.wanted.now s.out.now e p r.0 w.result r.1 c.put.ensures w.ensures.out_after }
