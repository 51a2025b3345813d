use native.Mathlib.Omega.{arith}
use Rattle.page.proofs.SlotBounds.{slots_bound}
use Rattle.descriptor_record.proofs.RewrittenTests.{again_refused, again_front, again_bytes, again_written}
use Rattle.descriptor_record.proofs.rewriting.write.Goals as goal

pub returns-in_default : goal.returns-in_default
returns-in_default c = let s = c.args in
    again_refused s.configuration.now s.fields.now c.test-tested.ensures s.out.now c.in_default.is

pub count-n-requires : goal.count-n-requires
count-n-requires c = let s = c.args in
    (again_front s.configuration.now s.fields.now c.test-tested.ensures s.out.now c.in-Ok.is).1

pub write-requires : goal.write-requires
write-requires c = let s = c.args in
    let k = s.configuration.now in
    let r = s.fields.now in
    let e = c.count-n.ensures in
    let f = again_front k r c.test-tested.ensures s.out.now c.in-Ok.is in
    let n = slots_bound k f.0 in
    record { has_types = f.1; has_names = (omega arith, omega (arith, e, n), omega (arith, e, n)); bytes_value = again_bytes k r c.test-tested.ensures s.out.now c.in-Ok.is e }

pub returns : goal.returns
returns c = let s = c.args in
    again_written s.configuration.now s.fields.now c.test-tested.ensures s.out.now c.in-Ok.is c.count-n.ensures c.write.ensures
