use native.Mathlib.Omega.{arith}
use Rattle.names.proofs.NameBack.{name_bound}
use Rattle.descriptor_record.specs.Rewritten.{entry_place}
use Rattle.descriptor_record.proofs.RewrittenTests.{name_first, zero_next, not_ended, all_ended}
use Rattle.descriptor_record.proofs.rewriting.is_ended.Goals as goal

pub loop-k-init : goal.loop-k-init
loop-k-init c = let r = c.args.fields.now in
    (omega arith, omega (arith, c.requires.n_value, name_bound r (entry_place c.args.i)), name_first r c.args.i c.requires.n_value)

pub returns-then-byte_at-ne0 : goal.returns-then-byte_at-ne0
returns-then-byte_at-ne0 c = let l = c.loop-k in
    not_ended c.args.fields.now c.args.i l.k c.requires.n_value l.invariant.0 c.name_at-at.ensures c.byte_at.ensures (omega (arith, c.loop-k-test.true)) c.if-byte_at-ne0.true

pub loop-k-preserved : goal.loop-k-preserved
loop-k-preserved c = let l = c.loop-k in (
  omega (arith, l.invariant.0),
  omega (arith, c.loop-k-test.true),
  zero_next c.args.fields.now c.args.i l.k c.requires.n_value l.invariant.0 c.name_at-at.ensures c.byte_at.ensures l.invariant.2 c.if-byte_at-ne0.false,
)

pub returns : goal.returns
returns c = let s = c.args in
    let l = c.loop-k in
    all_ended s.fields.now s.i {k = l.k} (omega (arith, l.invariant.1)) l.invariant.2
