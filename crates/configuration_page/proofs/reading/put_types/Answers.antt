use mathlib.Core.Path.{refl, sym, ◌∙◌}
use Prim.Native.Nat.{◌+◌}
use native.Mathlib.Omega.{arith}
use Rattle.shelf.specs.Limits.{type_place}
use Rattle.configuration_page.specs.Configuration.{type_told}
use Rattle.configuration_page.proofs.AcceptedPage.{headers_in}
use Rattle.configuration_page.proofs.TextStarts.{start_small}
use Rattle.bits.proofs.RowStarts.{start_first, start_next}
use Rattle.bits.proofs.RowsPut.{rows_next}
use Rattle.configuration_page.proofs.reading.put_types.Goals as goal

pub types_on-requires : goal.types_on-requires
types_on-requires c = omega (arith, headers_in c.args.page.now c.requires.page_value)

pub loop-t-init : goal.loop-t-init
loop-t-init c = (omega arith, c.header_place-start.ensures ∙ rw c.types_on.ensures (sym (start_first _ _)), refl)

pub overflow_add-start : goal.overflow_add-start
overflow_add-start c = let l = c.loop-t in
    let e = start_next _ _ l.t l.invariant.1 c.put_type-start.ensures.value in
    omega (arith, c.loop-t-test.true, e, start_small c.args.page.now c.requires.page_value (l.t + 1))

pub loop-t-preserved : goal.loop-t-preserved
loop-t-preserved c = let s = c.args in
    let l = c.loop-t in (
      omega (arith, c.loop-t-test.true),
      start_next _ _ l.t l.invariant.1 c.put_type-start.ensures.value,
      rows_next type_place (type_told s.page.now) s.configuration.now l.t l.invariant.2 refl refl c.put_type-start.ensures.configuration_after,
    )
