use Rattle.bits.specs.Places.{fours_put}
use mathlib.Core.Path.{◌≡◌}
use Prim.Native.Nat.{◌≤◌}
use Rattle.configuration_page.specs.Page.{header_place, type_header}
use Rattle.configuration_page.proofs.writing.put_headers.Given as goal

abbrev pub invariant-loop-t : goal.invariant-loop-t
invariant-loop-t l = (l.t ≤ l.n) × (l.out ≡ fours_put header_place (type_header l.front) l.initial.out l.t)
