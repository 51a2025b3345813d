use mathlib.Core.Path.{◌≡◌}
use Prim.Native.Nat.{◌-◌, ◌≤◌}
use Rattle.build_overall.specs.Choice.{best_among}
use Rattle.build_overall.proofs.overall.Given as goal

abbrev pub invariant-loop-j : goal.invariant-loop-j
invariant-loop-j l = (l.at.first ≤ l.j) × (l.j - l.at.first ≤ l.at.end - l.at.first) × (l.best ≡ best_among l.shelf l.wanted l.at (l.j - l.at.first))
