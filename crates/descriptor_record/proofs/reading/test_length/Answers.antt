use mathlib.Core.Path.{◌≡◌, refl, ap, ◌∙◌}
use native.Mathlib.Omega.{arith}
use Rattle.page.specs.Header.{length_tested}
use Rattle.descriptor_record.specs.Read.{place_on}
use Rattle.descriptor_record.proofs.DescriptorPlaces.{said_small, declared_small, place_carried, too_long}
use Rattle.descriptor_record.proofs.reading.test_length.Goals as goal

pub overflow_cast-bytes : goal.overflow_cast-bytes
overflow_cast-bytes c = record { fits = omega (arith, said_small c.args.page.now c.type_inv.page c.requires) }

pub loop-i-init : goal.loop-i-init
loop-i-init c = (omega arith, omega arith, refl)

pub returns-then-bytes-k : goal.returns-then-bytes-k
returns-then-bytes-k c = let l = c.loop-i in
    too_long c.args.page.now l.i c.args.n c.loop-i-test.true l.invariant.2 (omega (arith, c.if-bytes-k.true))

pub declared_at-requires : goal.declared_at-requires
declared_at-requires c = record { k_in_bounds = omega (arith, c.if-bytes-k.false); page_len_bound = said_small c.args.page.now c.type_inv.page c.requires }

pub overflow_add-k-in-loop-i : goal.overflow_add-k-in-loop-i
overflow_add-k-in-loop-i c = record { fits = omega (arith, declared_small c.args.page.now c.type_inv.page c.loop-i.k, c.declared_at.ensures) }

pub overflow_add-k-in-loop-i-2 : goal.overflow_add-k-in-loop-i-2
overflow_add-k-in-loop-i-2 c = let d = declared_small c.args.page.now c.type_inv.page c.loop-i.k in
    record { fits = omega (arith, d, c.declared_at.ensures, c.loop-i.invariant.1) }

pub loop-i-preserved : goal.loop-i-preserved
loop-i-preserved c = let p = c.args.page.now in
    let known = c.type_inv.page in
    let l = c.loop-i in
    let d = declared_small p known l.k in (
      omega (arith, c.loop-i-test.true),
      omega (arith, d, c.declared_at.ensures, said_small p known c.requires, c.if-bytes-k.false),
      place_carried p l.i l.invariant.2 c.declared_at.ensures,
    )

pub returns : goal.returns
returns c = let s = c.args in
    let l = c.loop-i in
    let e : l.i ≡ s.n = omega arith in
    c.test_length.ensures ∙ ap (length_tested s.page.now) (l.invariant.2 ∙ ap (place_on s.page.now) e)
