use Rattle.ses.proofs.Fronts.{front_written}
use Rattle.configuration_page.specs.Page.{configuration_page}
use Rattle.page.proofs.SlotsCounted.{shelf_counted}
use Rattle.page.specs.Header.{shelf_tested}
use Rattle.page.specs.Slots.{slots_of}
use Rattle.refusals.proofs.Left.{count_unwritten}
use Rattle.refusals.proofs.Stages.{slots_told}
use Rattle.ses.proofs.write_configuration.Goals as goal

pub returns-in_default : goal.returns-in_default
returns-in_default c = let s = c.args in
    count_unwritten (shelf_tested s.shelf.now) (slots_of s.shelf.now) (configuration_page s.shelf.now) s.out.now
    c.shelf_slots-tested.ensures c.in_default.is c.and.ensures

pub write-requires : goal.write-requires
write-requires c = (shelf_counted c.args.shelf.now c.in-Ok.is c.shelf_slots-tested.ensures).1

pub returns : goal.returns
returns c = let a = c.args in
    let s = a.shelf.now in
    let e = slots_told (shelf_tested s) (slots_of s) c.shelf_slots-tested.ensures c.in-Ok.is in
    front_written (shelf_tested s) (configuration_page s) a.out.now e.0 c.write.ensures
