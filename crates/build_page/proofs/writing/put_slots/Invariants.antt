use mathlib.Core.Path.{◌≡◌}
use Prim.Native.Nat.{◌≤◌}
use Rattle.bits.specs.Numbers.{bytes}
use Rattle.page.specs.Slots.{slots_put, slot_carried}
use Rattle.build_page.proofs.Loops.{standing}
use Rattle.build_page.specs.Page.{row_for, selects_for}
use Rattle.build_page.proofs.writing.put_slots.Given as goal

abbrev pub invariant-loop-i : goal.invariant-loop-i
invariant-loop-i l = (l.i ≤ l.n) × (l.sum ≤ l.i) × (bytes 4 l.over ≡ standing l.shelf l.wanted l.i) × (l.sum ≡ selects_for l.shelf l.wanted l.i) × (l.out ≡ slots_put (row_for l.shelf l.wanted) l.initial.out l.i) × (l.run ≡ slot_carried l.shelf l.i) × (l.n ≤ 65535)
