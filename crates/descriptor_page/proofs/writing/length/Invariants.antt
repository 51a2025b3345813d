use mathlib.Core.Path.{◌≡◌}
use Prim.Native.Nat.{◌≤◌}
use Rattle.names.specs.Name.{name_in}
use Rattle.descriptor_page.specs.Page.{start_of}
use Rattle.descriptor_page.proofs.writing.length.Given as goal

abbrev pub invariant-loop-i : goal.invariant-loop-i
invariant-loop-i l = (l.i ≤ l.n) × (l.bytes ≡ start_of (name_in l.names l.first) l.i)
