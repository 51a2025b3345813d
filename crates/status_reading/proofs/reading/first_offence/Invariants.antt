use mathlib.Core.Path.{◌≡◌}
use Prim.Native.Nat.{◌≤◌}
use mathlib.Core.Bool.{true}
use Rattle.bits.specs.Choice.{all_below, refused_in}
use Rattle.bits.proofs.Logic.{fails}
use Rattle.page.specs.Slots.{slot_carried}
use Rattle.status_reading.proofs.FirstOffence.{slot_offending}
use Rattle.status_reading.proofs.reading.first_offence.Given as goal

abbrev pub invariant-loop-i : goal.invariant-loop-i
invariant-loop-i l = (l.i ≤ l.n) × (l.run ≡ slot_carried l.configuration l.i) × (all_below (fails (refused_in (slot_offending l.configuration l.page))) l.i ≡ true)
