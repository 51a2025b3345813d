use mathlib.Core.Path.{◌≡◌}
use Prim.Native.Nat.{◌+◌, ◌-◌, ◌≤◌}
use Rattle.build_overall.proofs.Loops.{counted}
use Rattle.build_overall.proofs.cost.Given as goal

abbrev pub invariant-loop-j : goal.invariant-loop-j
invariant-loop-j l = (l.fn.at.first ≤ l.j) × (l.j - l.fn.at.first ≤ l.fn.at.end - l.fn.at.first) × (l.n ≤ 1 + l.j) × (l.n ≡ counted l.shelf l.wanted l.fn.at l.overall (l.j - l.fn.at.first))
