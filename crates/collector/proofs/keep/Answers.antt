use native.Mathlib.Omega.{arith}
use Rattle.collector.proofs.Putting.{kept_told, none_kept}
use Rattle.collector.proofs.keep.Goals as goal

pub returns-then-n-lt-MOST_KEPT : goal.returns-then-n-lt-MOST_KEPT
returns-then-n-lt-MOST_KEPT c = let s = c.args in
    kept_told s.collector.now s.n s.chunk.now c.at_most-fits.ensures c.copy.ensures

pub returns-else-n-lt-MOST_KEPT : goal.returns-else-n-lt-MOST_KEPT
returns-else-n-lt-MOST_KEPT c = let s = c.args in none_kept s.collector.now s.n s.chunk.now (omega (arith, c.if-n-lt-MOST_KEPT.false))
