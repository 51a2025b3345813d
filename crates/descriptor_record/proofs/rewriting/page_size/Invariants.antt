use mathlib.Core.Path.{◌≡◌}
use mathlib.Core.Bool.{true}
use Prim.Native.Nat.{◌≤◌}
use Rattle.bits.specs.Choice.{all_below}
use Rattle.descriptor_record.specs.Rewritten.{entry_formed, bytes_again}
use Rattle.descriptor_record.proofs.rewriting.page_size.Given as goal

abbrev pub invariant-loop-i : goal.invariant-loop-i
invariant-loop-i l = (l.i ≤ l.n) × (l.bytes ≡ bytes_again l.fields l.i) × (all_below (entry_formed l.fields) l.i ≡ true)
