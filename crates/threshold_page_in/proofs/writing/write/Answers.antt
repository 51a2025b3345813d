use native.Mathlib.Omega.{arith}
use mathlib.Core.Path.{refl, sym}
use lib.ListN.{length}
use Prim.Native.Nat.{◌≤◌}
use Rattle.std.proofs.Common.{rules}
use Rattle.page.proofs.SlotsCounted.{shelf_counted}
use Rattle.page.specs.Slots.{slot_place, slots_of}
use Rattle.page.specs.Header.{shelf_tested}
use Rattle.threshold_page_in.specs.Page.{threshold_page}
use Rattle.threshold_page_in.proofs.Refusals.{page_length}
use Rattle.threshold_page_in.proofs.writing.write.Goals as goal

pub write-requires : goal.write-requires
write-requires c = λ n u l o e.
    let s = c.args.shelf.now in
    let t = shelf_counted s u c.shelf_slots-counted.ensures in
    let k : slot_place (slots_of s) ≤ length o.now = rw e (omega (arith, l, t.2)) in
    search (rules, t.0, k, t.2)

pub returns : goal.returns
returns c =
    let s = c.args.shelf.now in
    c.write.ensures (shelf_tested s) (threshold_page s) (slots_of s) c.shelf_slots-counted.ensures (sym (page_length s refl refl), λ r o q e z. let h = sym e in search rules)
