use native.Mathlib.Omega.{arith}
use Rattle.descriptor_record.proofs.FirstOffence.{at_first, at_second, at_length, text_stopped, text_passed}
use Rattle.descriptor_record.proofs.reading.descriptor_offence.Goals as goal

pub returns-then-byte_at-ne0 : goal.returns-then-byte_at-ne0
returns-then-byte_at-ne0 c = let s = c.args in at_first s.page.now s.k s.n c.byte_at.ensures c.if-byte_at-ne0.true

pub returns-then-byte_at-ne0-2 : goal.returns-then-byte_at-ne0-2
returns-then-byte_at-ne0-2 c = let s = c.args in
    at_second s.page.now s.k s.n c.byte_at.ensures c.if-byte_at-ne0.false c.byte_at-2.ensures c.if-byte_at-ne0-2.true

pub returns-then-n : goal.returns-then-n
returns-then-n c = at_length c.args.page.now c.args.k c.args.n c.byte_at.ensures c.if-byte_at-ne0.false c.byte_at-2.ensures c.if-byte_at-ne0-2.false c.requires.n_value c.if-n.true

pub overflow_add-result : goal.overflow_add-result
overflow_add-result c = record { fits = omega (arith, c.if-run-n.true, c.if-n.false) }

pub returns-then-run-n : goal.returns-then-run-n
returns-then-run-n c = text_stopped c.args.page.now c.args.k c.args.n c.byte_at.ensures c.if-byte_at-ne0.false c.byte_at-2.ensures c.if-byte_at-ne0-2.false c.requires.n_value (omega (arith, c.if-n.false)) c.printable_run-run.ensures c.if-run-n.true

pub returns-else-run-n : goal.returns-else-run-n
returns-else-run-n c = text_passed c.args.page.now c.args.k c.args.n c.byte_at.ensures c.if-byte_at-ne0.false c.byte_at-2.ensures c.if-byte_at-ne0-2.false c.requires.n_value (omega (arith, c.if-n.false)) c.printable_run-run.ensures (omega (arith, c.if-run-n.false))
