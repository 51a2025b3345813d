use mathlib.Core.Path.{◌≡◌, sym, ◌∙◌}
use native.Mathlib.Omega.{arith}
use borrow.Author.Tests.{eq-eqb, ne_eqb}
use Rattle.bits.proofs.Logic.{below_fails, below_next}
use Rattle.shelf.specs.Limits.{most_text}
use Rattle.shelf_formed.specs.Formed.{text_byte_formed, text_formed}
use Rattle.shelf_formed.proofs.Tests.{byte_ended}
use Rattle.shelf_formed.proofs.text_ended.Goals as goal

pub loop-i-init : goal.loop-i-init
loop-i-init c = (omega arith, omega arith, c.requires.n_value_2)

pub overflow_add-text_place : goal.overflow_add-text_place
overflow_add-text_place c = omega (arith, c.text_place.ensures)

pub returns-then-byte_at-ne0 : goal.returns-then-byte_at-ne0
unfolding text_formed
returns-then-byte_at-ne0 c = let s = c.args.shelf.now in
    let t = c.args.t in
    let l = c.loop-i in
    let e = byte_ended s t c.requires.n_value l.i l.invariant.0 c.text_place.ensures c.byte_at.ensures in
    let no = ne_eqb c.byte_at.result 0 c.if-byte_at-ne0.true in
    sym (below_fails (text_byte_formed s t) most_text l.i c.loop-i-test.true (sym e ∙ no))

pub loop-i-preserved : goal.loop-i-preserved
loop-i-preserved c = let s = c.args.shelf.now in
    let t = c.args.t in
    let l = c.loop-i in
    let e = byte_ended s t c.requires.n_value l.i l.invariant.0 c.text_place.ensures c.byte_at.ensures in
    let yes = eq-eqb c.byte_at.result 0 c.if-byte_at-ne0.false in
    (omega arith, omega arith, below_next (text_byte_formed s t) l.i l.invariant.2 (sym e ∙ yes))

pub returns : goal.returns
unfolding text_formed
returns c = let e : c.loop-i.i ≡ most_text = omega arith in sym (rw e at c.loop-i.invariant.2)
