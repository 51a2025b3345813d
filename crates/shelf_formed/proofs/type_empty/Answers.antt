use mathlib.Core.Path.{◌≡◌, refl, sym}
use native.Mathlib.Omega.{arith}
use Rattle.bits.proofs.Logic.{below_fails, below_next}
use Rattle.shelf_formed.specs.Formed.{type_empty, type_byte_empty}
use Rattle.shelf.specs.Limits.{type_size, type_place}
use lib.ListN.{get_or}
use borrow.Author.Tests.{eq-eqb, ne_eqb}
use Prim.Native.Nat.{◌+◌}
use Rattle.shelf_formed.proofs.type_empty.Goals as goal

pub loop-i-init : goal.loop-i-init
loop-i-init c = (omega arith, refl)

pub overflow_add-type_place : goal.overflow_add-type_place
overflow_add-type_place c = omega (arith, c.type_place.ensures)

pub returns-then-byte_at-ne0 : goal.returns-then-byte_at-ne0
unfolding type_empty
returns-then-byte_at-ne0 c = let q = c.args in
    let s = q.shelf.now in
    let i = c.loop-i.i in
    let no = ne_eqb (get_or s (type_place q.t + i) 0) 0 (rw (c.byte_at.ensures, c.type_place.ensures) at c.if-byte_at-ne0.true) in
    sym (below_fails (type_byte_empty s q.t) type_size i c.loop-i-test.true no)

pub loop-i-preserved : goal.loop-i-preserved
loop-i-preserved c = let q = c.args in
    let s = q.shelf.now in
    let l = c.loop-i in
    let yes = eq-eqb (get_or s (type_place q.t + l.i) 0) 0 (rw (c.byte_at.ensures, c.type_place.ensures) at c.if-byte_at-ne0.false) in
    (omega arith, below_next (type_byte_empty s q.t) l.i l.invariant.1 yes)

pub returns : goal.returns
unfolding type_empty
returns c = let e : c.loop-i.i ≡ type_size = omega arith in sym (rw e at c.loop-i.invariant.1)
