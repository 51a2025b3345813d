use mathlib.Core.Path.{sym}
use native.Mathlib.Omega.{arith}
use Rattle.bits.proofs.RowStarts.{start_first, start_next}
use Rattle.names.proofs.NameBack.{name_bound}
use Rattle.descriptor_page.proofs.DescriptorRows.{width_is, names_short}
use Rattle.descriptor_page.proofs.writing.length.Goals as goal

pub loop-i-init : goal.loop-i-init
loop-i-init c = (omega arith, sym (start_first _ _))

pub overflow_add-bytes : goal.overflow_add-bytes
overflow_add-bytes c = let s = c.args in
    omega (arith, c.length_at.ensures, name_bound s.names.now c.name_at.result)

pub overflow_add-bytes-in-loop-i : goal.overflow_add-bytes-in-loop-i
overflow_add-bytes-in-loop-i c = let l = c.loop-i in
    let f = c.args.names.now in
    omega
    (arith, c.requires.1, c.length_at.ensures, name_bound f c.name_at.result, l.invariant.1, names_short f c.args.first l.i, c.loop-i-test.true)

pub loop-i-preserved : goal.loop-i-preserved
loop-i-preserved c = let s = c.args in
    let l = c.loop-i in
    let w = width_is s.names.now s.first l.i c.name_at.ensures c.length_at.ensures in
    (omega arith, start_next _ _ l.i l.invariant.1 w)
