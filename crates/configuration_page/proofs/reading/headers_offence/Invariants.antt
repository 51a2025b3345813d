use mathlib.Core.Path.{◌≡◌}
use mathlib.Core.Bool.{true}
use Prim.Native.Nat.{◌≤◌}
use Rattle.shelf.specs.Limits.{most_elements}
use Rattle.bits.specs.Choice.{all_below}
use Rattle.bits.proofs.Logic.{fails}
use Rattle.configuration_page.specs.Page.{header_place}
use Rattle.configuration_page.specs.Read.{offends, total_before}
use Rattle.configuration_page.proofs.reading.headers_offence.Given as goal

abbrev pub invariant-loop-t : goal.invariant-loop-t
invariant-loop-t l = (l.t ≤ l.n) × (l.elements ≤ most_elements) × (l.elements ≡ total_before l.page l.t) × (all_below (fails (offends l.page)) (header_place l.t) ≡ true)
