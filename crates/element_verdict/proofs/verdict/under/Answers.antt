use Prim.Native.Nat.{◌*◌}
use Rattle.element_verdict.proofs.SignedLimits.{under_moved}
use Rattle.element.specs.Verdict.{under}
use Rattle.element_verdict.proofs.verdict.under.Goals as goal

pub returns : goal.returns
unfolding under
returns c = let s = c.args in rw (c.lifted.ensures, ← (under_moved s.reading s.nominal (s.nominal * s.limit) c.ranges.reading.fits))
