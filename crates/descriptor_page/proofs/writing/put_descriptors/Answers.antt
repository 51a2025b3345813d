use mathlib.Core.Path.{refl, sym, ap}
use native.Mathlib.Omega.{arith}
use lib.ListN.{length}
use Rattle.bits.proofs.RowStarts.{start_first, start_next}
use Rattle.bits.proofs.RowsPut.{rows_next, rows_length}
use Rattle.names.specs.Name.{name_in}
use Rattle.descriptor_page.specs.Page.{descriptor, start_of}
use Rattle.descriptor_page.proofs.DescriptorRows.{name_short, name_is, name_there, put_width, row_there, names_short}
use Rattle.descriptor_page.proofs.writing.put_descriptors.Goals as goal

pub loop-i-init : goal.loop-i-init
loop-i-init c = (omega arith, sym (start_first _ _), refl)

pub put_descriptor-place-requires : goal.put_descriptor-place-requires
put_descriptor-place-requires c = let f = c.args.names.now in
    let first = c.args.first in
    let row = name_in f first in
    let l = c.loop-i in
    let i = l.i in
    let k = c.name_at.ensures in
    let w = ap (λ x. length (descriptor x)) (name_is f first i k) in
    let below = c.loop-i-test.true in
    let e = rows_length (start_of row) (λ j. descriptor (row j)) c.args.out.now i l.invariant.2 in record { most_text_in_bounds = name_there f first i k c.args.n c.requires.has_names below; at_in_bounds = omega (arith, c.requires.n_in_bounds, e, l.invariant.1, row_there row c.args.n i below, w); place_bound = omega (arith, c.requires.has_names.1, l.invariant.1, names_short f first i) }

pub overflow_add-place : goal.overflow_add-place
overflow_add-place c = let f = c.args.names.now in
    let first = c.args.first in
    let l = c.loop-i in
    let w = put_width f first l.i c.name_at.ensures c.put_descriptor-place.ensures.value in
    omega (arith, c.requires.has_names.1, l.invariant.1, names_short f first l.i, w, name_short f first l.i)

pub loop-i-preserved : goal.loop-i-preserved
loop-i-preserved c = let s = c.args in
    let f = s.names.now in
    let first = s.first in
    let row = name_in f first in
    let l = c.loop-i in
    let k = c.name_at.ensures in (
      omega arith,
      start_next _ _ l.i l.invariant.1 (put_width f first l.i k c.put_descriptor-place.ensures.value),
      rows_next (start_of row) (λ j. descriptor (row j)) s.out.now l.i l.invariant.2 l.invariant.1 (ap descriptor (name_is f first l.i k)) c.put_descriptor-place.ensures.out_after,
    )
