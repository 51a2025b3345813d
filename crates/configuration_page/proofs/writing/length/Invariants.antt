use mathlib.Core.Path.{◌≡◌}
use Prim.Native.Nat.{◌≤◌, ◌+◌, ◌*◌}
use Rattle.configuration_page.specs.Page.{text_start}
use Rattle.configuration_page.proofs.writing.length.Given as goal

abbrev pub invariant-loop-t : goal.invariant-loop-t
invariant-loop-t l = (l.t ≤ l.n) × (l.bytes ≤ 48 + 4 * 65535 + 255 * l.t) × (l.bytes ≡ text_start l.front l.t)
