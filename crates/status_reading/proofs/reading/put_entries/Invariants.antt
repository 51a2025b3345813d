use mathlib.Core.Path.{◌≡◌}
use Prim.Native.Nat.{◌≤◌}
use Rattle.page.specs.Slots.{slot_carried}
use Rattle.status_record.specs.Entries.{entries_put}
use Rattle.status_reading.specs.Read.{slot_shown}
use Rattle.status_reading.proofs.reading.put_entries.Given as goal

abbrev pub invariant-loop-i : goal.invariant-loop-i
invariant-loop-i l = (l.i ≤ l.n) × (l.run ≡ slot_carried l.configuration l.i) × (l.fields ≡ entries_put (slot_shown l.configuration l.page) l.initial.fields l.i) × (l.n ≤ 65535)
