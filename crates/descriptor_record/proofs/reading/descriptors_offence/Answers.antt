use mathlib.Core.Path.{◌≡◌, refl, sym, ap, ◌∙◌}
use native.Mathlib.Omega.{arith}
use Rattle.descriptor_record.specs.Read.{place_on}
use Rattle.descriptor_record.proofs.DescriptorPlaces.{place_carried, place_in, in_page}
use Rattle.descriptor_record.proofs.FirstOffence.{none_in_head, stopped_in, none_in, none_found}
use Rattle.descriptor_record.proofs.reading.descriptors_offence.Goals as goal

pub loop-i-init : goal.loop-i-init
loop-i-init c = (omega arith, refl, none_in_head c.args.page.now c.args.n c.requires.n_value)

pub declared_at-text-requires : goal.declared_at-text-requires
declared_at-text-requires c = let l = c.loop-i in
    let e = place_in c.args.page.now l.i c.args.n c.loop-i-test.true in
    record { k_in_bounds = omega (arith, e, l.invariant.1, c.requires.page_len); page_len_bound = c.requires.page_len_bound }

pub descriptor_offence-requires : goal.descriptor_offence-requires
descriptor_offence-requires c = let l = c.loop-i in
    record { n_value = c.declared_at-text.ensures; n_in_bounds = in_page c.args.page.now l.i c.args.n c.loop-i-test.true l.invariant.1 c.declared_at-text.ensures c.requires.page_len; page_len_bound = c.requires.page_len_bound }

pub overflow_add-k : goal.overflow_add-k
overflow_add-k c = let l = c.loop-i in
    let e = in_page c.args.page.now l.i c.args.n c.loop-i-test.true l.invariant.1 c.declared_at-text.ensures c.requires.page_len in
    record { fits = omega (arith, e, c.requires.page_len_bound) }

pub overflow_add-result : goal.overflow_add-result
overflow_add-result c = let l = c.loop-i in
    let e = stopped_in c.args.page.now c.args.n l.i c.loop-i-test.true l.invariant.1 c.declared_at-text.ensures l.invariant.2 c.in-Some.ensures in
    record { fits = omega (arith, e.0, c.requires.page_len, c.requires.page_len_bound) }

pub returns-in-Some : goal.returns-in-Some
returns-in-Some c = let l = c.loop-i in
    (stopped_in c.args.page.now c.args.n l.i c.loop-i-test.true l.invariant.1 c.declared_at-text.ensures l.invariant.2 c.in-Some.ensures).1

pub overflow_add-k-in-loop-i : goal.overflow_add-k-in-loop-i
overflow_add-k-in-loop-i c = let l = c.loop-i in
    let e = in_page c.args.page.now l.i c.args.n c.loop-i-test.true l.invariant.1 c.declared_at-text.ensures c.requires.page_len in
    record { fits = omega (arith, e, c.requires.page_len_bound) }

pub loop-i-preserved : goal.loop-i-preserved
loop-i-preserved c = let l = c.loop-i in
    let m = c.loop-i-test.true in
    let d = c.declared_at-text.ensures in (
      omega (arith, m),
      place_carried c.args.page.now l.i l.invariant.1 d,
      none_in c.args.page.now c.args.n l.i m l.invariant.1 d l.invariant.2 (sym c.in_default.is ∙ c.descriptor_offence.ensures),
    )

pub returns : goal.returns
returns c = let s = c.args in
    let l = c.loop-i in
    let e : l.i ≡ s.n = omega arith in
    none_found s.page.now s.n (l.invariant.1 ∙ ap (place_on s.page.now) e) l.invariant.2
