use Rattle.std.proofs.Common.{ap, arith}
use Rattle.page.specs.declared.slots.SlotRun.{SlotRun}
use Rattle.page.proofs.SlotsCounted.{shelf_counted}
use Rattle.page.proofs.SlotWalk.{run_stands}
use Rattle.tool_show.proofs.place.say_element.Goals as goal

pub run_of-requires : goal.run_of-requires
run_of-requires g c =
    let h = shelf_counted c.args.shelf.now c.in-Ok.is c.shelf_slots-counted.ensures in
    record { has_front = h.1; i_bound = omega (arith, h.2, c.if-i-n.true) }

pub say_slot-requires : goal.say_slot-requires
say_slot-requires g c =
    let x = c.args.shelf.now in
    let h = shelf_counted x c.in-Ok.is c.shelf_slots-counted.ensures in
    let q = c.run_of.ensures in
    let t = ap (λ (r : SlotRun). r.types) q in
    let a = run_stands x h.1.0 c.args.i (omega (arith, h.2, c.if-i-n.true)) q in
    record { le_types = omega (arith, t); i_lt_end = a.0; types_bound = a.1 }
