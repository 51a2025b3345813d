use mathlib.Core.Path.{◌≡◌}
use mathlib.Core.Bool.{true}
use Prim.Native.Nat.{◌≤◌}
use Rattle.bits.specs.Choice.{all_below}
use Rattle.bits.proofs.Logic.{fails}
use Rattle.descriptor_record.specs.Read.{place_on, offends}
use Rattle.descriptor_record.proofs.reading.descriptors_offence.Given as goal

abbrev pub invariant-loop-i : goal.invariant-loop-i
invariant-loop-i l = (l.i ≤ l.n) × (l.k ≡ place_on l.page l.i) × (all_below (fails (offends l.page l.n)) l.k ≡ true)
