use Prim.Native.Nat.{◌*◌}
use Rattle.element_verdict.proofs.SignedLimits.{over_moved}
use Rattle.element.specs.Verdict.{over}
use Rattle.element_verdict.proofs.verdict.over.Goals as goal

pub returns : goal.returns
unfolding over
returns c = let s = c.args in rw (c.lifted.ensures, ← (over_moved s.reading s.nominal (s.nominal * s.limit) c.ranges.reading.fits))
