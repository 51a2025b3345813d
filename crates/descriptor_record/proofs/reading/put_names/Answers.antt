use mathlib.Core.Path.{◌≡◌, refl, ap, ◌∙◌}
use Prim.Native.Nat.{ℕ, ◌+◌, ◌<◌, ◌≤◌}
use native.Mathlib.Omega.{arith}
use Rattle.bits.proofs.RowsPut.{rows_next}
use Rattle.shelf.specs.Limits.{most_text}
use Rattle.page.specs.Slots.{slots_of}
use Rattle.names.specs.Name.{padded}
use Rattle.descriptor_record.specs.Rewritten.{entry_place}
use Rattle.descriptor_record.specs.Read.{declared, place_on, name_on}
use Rattle.descriptor_record.proofs.DescriptorPlaces.{place_carried}
use Rattle.descriptor_record.proofs.Refusals.{few_slots, short_name, name_there, page_small}
use Rattle.descriptor_record.proofs.reading.put_names.Goals as goal

pub loop-i-init : goal.loop-i-init
loop-i-init c = (omega arith, refl, refl)

pub put_name-k-requires : goal.put_name-k-requires
put_name-k-requires c = let k = c.args.configuration.now in
    let p = c.args.page.now in
    let l = c.loop-i in
    let i : l.i < slots_of k = omega (arith, c.loop-i-test.true, c.requires.n_value) in
    let h : declared p l.k ≤ most_text = rw l.invariant.1 (short_name k p c.requires.page_value l.i i) in
    record { k_value = l.invariant.1; k_in_bounds = name_there k p c.requires.page_value l.i i l.invariant.1; page_len_bound = page_small k p c.requires.page_value; k_bound = h; i_bound = omega (arith, i, few_slots k p c.requires.page_value) }

pub overflow_add-k : goal.overflow_add-k
overflow_add-k c = let k = c.args.configuration.now in
    let p = c.args.page.now in
    let l = c.loop-i in
    let e = name_there k p c.requires.page_value l.i (omega (arith, c.loop-i-test.true, c.requires.n_value)) l.invariant.1 in
    record { fits = omega (arith, e, c.put_name-k.ensures.value, page_small k p c.requires.page_value) }

pub loop-i-preserved : goal.loop-i-preserved
loop-i-preserved c = let p = c.args.page.now in
    let l = c.loop-i in
    let e : l.k + (4 + declared p l.k) ≡ place_on p (l.i + 1) = place_carried p l.i l.invariant.1 refl in (
      omega (arith, c.loop-i-test.true),
      ap (λ (n : ℕ). l.k + n) c.put_name-k.ensures.value ∙ e,
      rows_next entry_place (λ i. padded (name_on p i)) c.args.fields.now l.i l.invariant.2 refl refl c.put_name-k.ensures.fields_after,
    )

pub returns : goal.returns
returns c = let e : c.loop-i.i ≡ c.args.n = omega arith in rw e at c.loop-i.invariant.2
