use mathlib.Core.Path.{◌≡◌}
use Prim.Native.Nat.{◌*◌, ◌≤◌}
use Rattle.shelf.specs.Types.{before}
use Rattle.shelf.proofs.types.elements_before.Given as goal

abbrev pub invariant-loop-t : goal.invariant-loop-t
invariant-loop-t l = (l.sum ≤ 255 * l.t) × (l.sum ≡ before l.shelf l.t)
