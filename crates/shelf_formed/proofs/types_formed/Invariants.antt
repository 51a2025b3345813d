use mathlib.Core.Path.{◌≡◌}
use mathlib.Core.Bool.{true}
use Prim.Native.Nat.{◌≤◌}
use Rattle.bits.specs.Choice.{all_below}
use Rattle.shelf_formed.specs.Formed.{slot_formed}
use Rattle.shelf.specs.Limits.{most_types}
use Rattle.shelf_formed.proofs.types_formed.Given as goal

abbrev pub invariant-loop-t : goal.invariant-loop-t
invariant-loop-t l = (l.t ≤ most_types) × (all_below (slot_formed l.shelf l.n) l.t ≡ true)
