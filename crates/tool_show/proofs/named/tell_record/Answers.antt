use Rattle.page.proofs.SlotsCounted.{shelf_counted}
use Rattle.tool_show.proofs.named.tell_record.Goals as goal

pub tell_entries-requires : goal.tell_entries-requires
tell_entries-requires g c =
    let h = shelf_counted c.args.shelf.now c.in-Ok.is c.shelf_slots-counted.ensures in
    record { has_front = h.1; n_value = h.2 }
