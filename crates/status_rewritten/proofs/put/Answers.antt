use native.Mathlib.Omega.{arith}
use Rattle.page.proofs.HeaderTests.{head_length}
use Rattle.page.proofs.SlotBounds.{slots_bound}
use Rattle.status_page.specs.Page.{slot_row}
use Rattle.status_record.specs.Entries.{entry_at}
use Rattle.status_rewritten.proofs.Refusals.{again_placed}
use Rattle.status_rewritten.proofs.put.Goals as goal

pub put_rows-requires : goal.put_rows-requires
put_rows-requires c = let s = c.args in
    let b = slots_bound s.configuration.now c.requires.has_front.0 in
    let l = head_length s.configuration.now s.out.now 0x02 _ s.n c.put.ensures in
    record { has_front = c.requires.has_front; n_bound = omega (arith, c.requires.n_value); n_in_bounds = omega (arith, c.requires.n_in_bounds, l); takes = λ i l. omega (arith, l, c.requires.n_value, b) }

pub returns : goal.returns
returns c = let s = c.args in
    again_placed s.configuration.now s.fields.now c.requires.n_value s.out.now c.requires.n_in_bounds
    c.bits_at.ensures
    c.byte-own.ensures
    c.put.ensures (c.put_rows.ensures (slot_row s.configuration.now (entry_at s.fields.now)) (λ i l x h. h.1))
