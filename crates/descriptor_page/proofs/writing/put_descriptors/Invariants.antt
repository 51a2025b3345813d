use mathlib.Core.Path.{◌≡◌}
use Prim.Native.Nat.{◌≤◌}
use Rattle.bits.specs.Rows.{rows_put}
use Rattle.names.specs.Name.{name_in}
use Rattle.descriptor_page.specs.Page.{descriptor, start_of}
use Rattle.descriptor_page.proofs.writing.put_descriptors.Given as goal

abbrev pub invariant-loop-i : goal.invariant-loop-i
invariant-loop-i l = (l.i ≤ l.n)
    × (l.place ≡ start_of (name_in l.names l.first) l.i)
    × (l.out ≡ rows_put (start_of (name_in l.names l.first)) (λ j. descriptor (name_in l.names l.first j)) l.initial.out l.i)
