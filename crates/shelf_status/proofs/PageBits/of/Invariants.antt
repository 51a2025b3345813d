use mathlib.Core.Path.{◌≡◌}
use Prim.Native.Nat.{◌≤◌}
use Rattle.shelf.specs.Types.{carried}
use Rattle.shelf_status.proofs.WorstCode.{bits_seen}
use Rattle.shelf_status.proofs.PageBits.of.Given as goal

abbrev pub invariant-loop-j : goal.invariant-loop-j
invariant-loop-j l = (l.j ≤ l.n) × (l.seen ≡ bits_seen l.shelf l.j) × (l.run ≡ carried l.shelf l.j)
