use mathlib.Core.Path.{◌≡◌}
use mathlib.Core.Bool.{true}
use Prim.Native.Nat.{◌≤◌}
use Rattle.bits.specs.Choice.{all_below}
use Rattle.shelf_formed.specs.Formed.{type_byte_empty}
use Rattle.shelf.specs.Limits.{type_size}
use Rattle.shelf_formed.proofs.type_empty.Given as goal

abbrev pub invariant-loop-i : goal.invariant-loop-i
invariant-loop-i l = (l.i ≤ type_size) × (all_below (type_byte_empty l.shelf l.t) l.i ≡ true)
