use mathlib.Core.Path.{◌≡◌}
use mathlib.Core.Bool.{true}
use Prim.Native.Nat.{◌≤◌}
use Rattle.bits.specs.Choice.{all_below}
use Rattle.bits.proofs.Logic.{fails}
use Rattle.configuration_page.specs.Read.{offends}
use Rattle.configuration_page.proofs.reading.texts_offence.Given as goal

abbrev pub invariant-loop-k : goal.invariant-loop-k
invariant-loop-k l = (l.from ≤ l.k) × (l.k ≤ l.n) × (all_below (fails (offends l.page)) l.k ≡ true)
