use mathlib.Core.Path.{◌≡◌}
use Prim.Native.Nat.{◌-◌, ◌≤◌}
use Rattle.shelf_status.specs.ShelfStatus.{worst_of, has}
use Rattle.shelf_status.proofs.worst.Given as goal

abbrev pub invariant-loop-j : goal.invariant-loop-j
invariant-loop-j l = (l.first ≤ l.j) × (l.j - l.first ≤ l.end - l.first) × (l.code ≡ worst_of (has l.shelf l.kind l.first (l.j - l.first)))
