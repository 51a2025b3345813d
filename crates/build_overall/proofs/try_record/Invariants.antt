use mathlib.Core.Path.{◌≡◌}
use Prim.Native.Nat.{◌≤◌}
use Rattle.build_overall.proofs.Loops.{upto}
use Rattle.build_overall.proofs.try_record.Given as goal

abbrev pub invariant-loop-v : goal.invariant-loop-v
invariant-loop-v l = (l.v ≤ l.n) × (l.best ≡ upto l.shelf l.wanted l.at l.x l.initial.best.overall l.v)
