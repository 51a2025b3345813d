use mathlib.Core.Path.{◌≡◌}
use Prim.Native.Nat.{◌≤◌, ◌+◌, ◌*◌}
use Rattle.configuration_page.specs.Read.{text_place_on}
use Rattle.configuration_page.proofs.reading.needed_length.Given as goal

abbrev pub invariant-loop-t : goal.invariant-loop-t
invariant-loop-t l = (l.t ≤ l.n) × (l.bytes ≤ 48 + 4 * 65535 + 255 * l.t) × (l.bytes ≡ text_place_on l.page l.t)
