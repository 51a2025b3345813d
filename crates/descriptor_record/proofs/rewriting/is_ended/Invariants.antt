use mathlib.Core.Path.{◌≡◌}
use mathlib.Core.Bool.{true}
use Prim.Native.Nat.{◌≤◌}
use Rattle.bits.specs.Choice.{all_below}
use Rattle.shelf.specs.Limits.{most_text}
use Rattle.descriptor_record.specs.Rewritten.{entry_place, end_byte}
use Rattle.descriptor_record.proofs.rewriting.is_ended.Given as goal

abbrev pub invariant-loop-k : goal.invariant-loop-k
invariant-loop-k l = (l.n ≤ l.k) × (l.k ≤ most_text) × (all_below (end_byte l.fields (entry_place l.i)) l.k ≡ true)
