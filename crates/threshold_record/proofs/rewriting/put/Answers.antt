use native.Mathlib.Omega.{arith}
use Rattle.page.proofs.HeaderTests.{head_length}
use Rattle.page.proofs.SlotBounds.{slots_bound}
use Rattle.threshold_record.proofs.Refusals.{again_placed}
use Rattle.threshold_record.proofs.rewriting.put.Goals as goal

pub copy-requires : goal.copy-requires
copy-requires c = let s = c.args in
    let b = slots_bound s.configuration.now c.requires.has_front.0 in
    let l = head_length s.configuration.now s.out.now 0x05 0 s.n c.put.ensures in
    record { n_in_bounds = omega (arith, c.requires.n_value, b); n_in_bounds_2 = omega (arith, c.requires.n_in_bounds, l) }

pub returns : goal.returns
returns c = let s = c.args in
    again_placed s.configuration.now s.fields.now c.requires.n_value s.out.now c.requires.n_in_bounds
    c.put.ensures c.copy.ensures
