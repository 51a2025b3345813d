use mathlib.Core.Path.{◌≡◌}
use Prim.Native.Nat.{◌≤◌}
use Rattle.descriptor_record.specs.Read.{place_on}
use Rattle.descriptor_record.proofs.reading.test_length.Given as goal

abbrev pub invariant-loop-i : goal.invariant-loop-i
invariant-loop-i l = (l.i ≤ l.n) × (l.k ≤ 131078) × (l.k ≡ place_on l.page l.i)
