use mathlib.Core.Path.{◌≡◌}
use Prim.Native.Nat.{◌≤◌}
use Rattle.shelf.specs.Limits.{most_types, type_place}
use Rattle.configuration_page.specs.Configuration.{told_start, type_told}
use Rattle.bits.specs.Rows.{rows_put}
use Rattle.configuration_page.proofs.reading.put_types.Given as goal

abbrev pub invariant-loop-t : goal.invariant-loop-t
invariant-loop-t l = (l.t ≤ most_types) × (l.start ≡ told_start l.page l.t) × (l.configuration ≡ rows_put type_place (type_told l.page) l.initial.configuration l.t)
