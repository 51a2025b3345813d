use mathlib.Core.Path.{◌≡◌}
use mathlib.Core.Bool.{true}
use Prim.Native.Nat.{◌*◌, ◌≤◌}
use Rattle.bits.specs.Choice.{all_below}
use Rattle.shelf.specs.Types.{ended_by}
use Rattle.shelf.specs.Types as counts
use Rattle.shelf.proofs.types.run_from.Given as goal

abbrev pub invariant-loop-number : goal.invariant-loop-number
invariant-loop-number l = (l.before ≤ 255 * l.number) × (l.before ≡ counts.before l.shelf l.number) × (all_below (ended_by l.shelf l.j) l.number ≡ true)
