use native.Mathlib.Omega.{arith}
use Rattle.descriptor_record.proofs.DescriptorPlaces.{place_up}
use Rattle.descriptor_record.proofs.FirstOffence.{stopped_first, first_clear_lem}
use Rattle.descriptor_record.proofs.reading.first_offence.Goals as goal

pub byte_at-requires : goal.byte_at-requires
byte_at-requires c = omega (arith, c.requires.page_len, place_up c.args.page.now 0 c.args.n (omega arith))

pub returns-then-byte_at-ne0 : goal.returns-then-byte_at-ne0
returns-then-byte_at-ne0 c = let s = c.args in stopped_first s.page.now s.n c.byte_at.ensures c.if-byte_at-ne0.true

pub descriptors_offence-requires : goal.descriptors_offence-requires
descriptors_offence-requires c = record { page_len = c.requires.page_len; page_len_bound = c.requires.page_len_bound; n_value = first_clear_lem c.args.page.now c.args.n c.byte_at.ensures c.if-byte_at-ne0.false }
