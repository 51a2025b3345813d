use mathlib.Core.Path.{refl}
use native.Mathlib.Omega.{arith}
use Rattle.bits.proofs.Each.{bytes_of}
use Rattle.shelf_formed.proofs.ElementPut.{length-formed, shelf_there}
use Rattle.build_page.proofs.PromiseKept.{wish_refused, wish_there, reach_refused, reach_held, page_promised}
use Rattle.build_page.proofs.build.Goals as goal

pub returns-in_default : goal.returns-in_default
returns-in_default c = let s = c.args in
    wish_refused s.shelf.now s.wanted.now s.out.now c.wish-tested.ensures c.in_default.is
    c.and.ensures

pub all_elements-requires : goal.all_elements-requires
all_elements-requires c = let s = c.args in
    let z = wish_there s.shelf.now s.wanted.now s.out.now c.wish-tested.ensures c.in-Ok.is in
    (shelf_there s.shelf.now z.0).1

pub test_reach-reach-requires : goal.test_reach-reach-requires
test_reach-reach-requires c = let s = c.args in
    let z = wish_there s.shelf.now s.wanted.now s.out.now c.wish-tested.ensures c.in-Ok.is in
    let n = c.all_elements.ensures in
    record { n_in_bounds = omega (arith, n, length-formed s.shelf.now z.0); n_in_bounds_2 = omega (arith, n, z.1) }

pub returns-in_default-reach : goal.returns-in_default-reach
returns-in_default-reach c = let s = c.args in
    reach_refused s.shelf.now s.wanted.now s.out.now c.wish-tested.ensures c.in-Ok.is
    c.all_elements.ensures c.test_reach-reach.ensures c.in_default-reach.is
    c.and-in_default-reach.ensures

pub write-requires : goal.write-requires
write-requires c = let s = c.args in
    let z = wish_there s.shelf.now s.wanted.now s.out.now c.wish-tested.ensures c.in-Ok.is in
    record { shelf_value = z.0; shelf_in_bounds = omega (arith, z.1) }

pub returns : goal.returns
returns c = let s = c.args in
    let hs = bytes_of s.shelf.now (λ i. omega (arith, c.type_inv.shelf i)) in
    let hw = bytes_of s.wanted.now (λ i. omega (arith, c.type_inv.wanted i)) in
    let h = reach_held s.shelf.now s.wanted.now c.all_elements.result c.test_reach-reach.ensures c.in-Ok-reach.is in
    page_promised s.shelf.now s.wanted.now s.out.now c.wish-tested.ensures c.in-Ok.is hs hw
    c.all_elements.ensures refl h c.write.ensures.value c.write.ensures.out_after
