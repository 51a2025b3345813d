use mathlib.Core.Path.{◌≡◌}
use mathlib.Core.Bool.{true}
use Prim.Native.Nat.{◌≤◌}
use Rattle.bits.specs.Choice.{all_below, refused_in}
use Rattle.bits.proofs.Logic.{fails}
use Rattle.page.specs.Slots.{slot_carried}
use Rattle.threshold_rows.specs.Rows.{row_offending, row_had, row_ordered}
use Rattle.threshold_rows.proofs.scan.Given as goal

abbrev pub invariant-loop-i : goal.invariant-loop-i
invariant-loop-i l = (l.i ≤ l.n) × (l.run ≡ slot_carried l.configuration l.i) × (all_below (fails (refused_in (row_offending l.configuration l.block l.start))) l.i ≡ true) × (l.had ≡ all_below (row_had l.configuration l.block l.start) l.i) × (l.ordered ≡ all_below (row_ordered l.configuration l.block l.start) l.i)
