use Rattle.bits.proofs.Rows.{copy_start, copy_next, copied}
use mathlib.Core.Path.{◌≡◌, refl, ◌∙◌}
use Prim.Native.Nat.{◌+◌}
use native.Mathlib.Omega.{arith}
use lib.ListN.{length-set}
use Rattle.bits.proofs.copy.Goals as goal

pub loop-i-init : goal.loop-i-init
loop-i-init c = let s = c.args in (refl, copy_start s.to.now s.place s.from.now s.at)

pub loop-i-preserved : goal.loop-i-preserved
loop-i-preserved c = let s = c.args in let i = c.loop-i.i in let e = c.loop-i.invariant.1 in (length-set c.loop-i.to (s.place + i) _ ∙ c.loop-i.invariant.0, rw e (copy_next s.to.now s.place s.from.now s.at i (omega arith)))

pub returns : goal.returns
returns c = let s = c.args in let e : c.loop-i.i ≡ s.n = omega arith in rw e at c.loop-i.invariant.1 ∙ copied s.to.now s.place s.from.now s.at s.n c.requires.n_in_bounds_2
