use mathlib.Core.Path.{◌≡◌}
use mathlib.Core.Bool.{true}
use Prim.Native.Nat.{◌≤◌}
use Rattle.bits.specs.Choice.{all_below}
use Rattle.shelf.specs.Limits.{most_text}
use Rattle.shelf_formed.specs.Formed.{text_byte_formed}
use Rattle.shelf_formed.proofs.text_ended.Given as goal

abbrev pub invariant-loop-i : goal.invariant-loop-i
invariant-loop-i l = (l.n ≤ l.i) × (l.i ≤ most_text) × (all_below (text_byte_formed l.shelf l.t) l.i ≡ true)
