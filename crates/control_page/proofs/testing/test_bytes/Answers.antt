use Rattle.std.proofs.Common.{refl, arith}
use Rattle.page.specs.Walk.{slot_tested}
use Rattle.page.proofs.SlotsTested.{byte_refused, byte_passed}
use Rattle.control_page.specs.Tests.{first_allows}
use Rattle.control_page.proofs.FirstOffence.{slot_offending, found}
use Rattle.control_page.proofs.Tests.{bytes_tested_lem}
use Rattle.control_page.proofs.testing.test_bytes.Goals as goal

pub returns-in_default : goal.returns-in_default
returns-in_default c = let s = c.args.shelf.now in
    let p = c.args.page.now in
    let n = c.args.n in
    bytes_tested_lem s p n (found s p n) refl (byte_refused (first_allows p) (slot_offending s p) n c.test_byte-byte.ensures c.in_default.is)

pub test_slots-requires : goal.test_slots-requires
test_slots-requires c = record { has_front = c.requires.has_front; n_bound = c.requires.n_bound; takes = λ i l. omega (arith, l, c.requires.n_in_bounds) }

pub returns : goal.returns
unfolding slot_offending
returns c = let s = c.args.shelf.now in
    let p = c.args.page.now in
    let n = c.args.n in
    bytes_tested_lem s p n (found s p n) refl
    (byte_passed (first_allows p) (slot_offending s p) n c.test_byte-byte.ensures c.in-Ok.is (c.test_slots.ensures (λ i. slot_tested i (slot_offending s p i)) (λ i l x h. h.1)))
