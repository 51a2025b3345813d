use mathlib.Core.Path.{◌≡◌}
use Prim.Native.Nat.{◌-◌, ◌≤◌}
use mathlib.Core.Bool.{true}
use Rattle.bits.specs.Choice.{all_below}
use Rattle.bits.proofs.Logic.{fails}
use Rattle.build_overall.proofs.Loops.{like}
use Rattle.build_overall.proofs.is_repeated.Given as goal

abbrev pub invariant-loop-i : goal.invariant-loop-i
invariant-loop-i l = (l.first ≤ l.i) × (l.i - l.first ≤ l.j - l.first) × (all_below (fails (like l.wanted l.first l.j)) (l.i - l.first) ≡ true)
