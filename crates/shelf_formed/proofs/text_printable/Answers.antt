use mathlib.Core.Path.{◌≡◌, refl, sym, ◌∙◌}
use native.Mathlib.Omega.{arith}
use Rattle.bits.proofs.Logic.{below_fails, below_next}
use Rattle.shelf_formed.specs.Formed.{text_byte_formed}
use Rattle.shelf_formed.proofs.Tests.{byte_printable}
use Rattle.shelf_formed.proofs.text_printable.Goals as goal

pub loop-i-init : goal.loop-i-init
loop-i-init c = (omega arith, refl)

pub overflow_add-text_place : goal.overflow_add-text_place
overflow_add-text_place c = omega (arith, c.text_place.ensures)

pub returns-then-not-is_printable : goal.returns-then-not-is_printable
returns-then-not-is_printable c = let s = c.args.shelf.now in
    let t = c.args.t in
    let i = c.loop-i.i in
    let below = c.loop-i-test.true in
    let e = byte_printable s t c.requires.n_value i below c.text_place.ensures c.byte_at-b.ensures in
    sym (below_fails (text_byte_formed s t) c.args.n i below (sym e ∙ sym c.is_printable.ensures ∙ c.if-not-is_printable.true))

pub loop-i-preserved : goal.loop-i-preserved
loop-i-preserved c = let s = c.args.shelf.now in
    let t = c.args.t in
    let l = c.loop-i in
    let below = c.loop-i-test.true in
    let e = byte_printable s t c.requires.n_value l.i below c.text_place.ensures c.byte_at-b.ensures in
    (omega arith, below_next (text_byte_formed s t) l.i l.invariant.1 (sym e ∙ sym c.is_printable.ensures ∙ c.if-not-is_printable.false))

pub returns : goal.returns
returns c = let e : c.loop-i.i ≡ c.args.n = omega arith in sym (rw e at c.loop-i.invariant.1)
