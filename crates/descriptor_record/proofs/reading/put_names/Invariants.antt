use mathlib.Core.Path.{◌≡◌}
use Prim.Native.Nat.{◌≤◌}
use Rattle.bits.specs.Rows.{rows_put}
use Rattle.names.specs.Name.{padded}
use Rattle.descriptor_record.specs.Rewritten.{entry_place}
use Rattle.descriptor_record.specs.Read.{place_on, name_on}
use Rattle.descriptor_record.proofs.reading.put_names.Given as goal

abbrev pub invariant-loop-i : goal.invariant-loop-i
invariant-loop-i l = (l.i ≤ l.n) × (l.k ≡ place_on l.page l.i) × (l.fields ≡ rows_put entry_place (λ i. padded (name_on l.page i)) l.initial.fields l.i)
