use Rattle.ses.proofs.Fronts.{front_written}
use Rattle.configuration_page.specs.Page.{configuration_page}
use Rattle.page.proofs.SlotsCounted.{configuration_counted}
use Rattle.page.specs.Header.{configuration_tested}
use Rattle.page.specs.Slots.{slots_of}
use Rattle.refusals.proofs.Left.{count_unwritten}
use Rattle.refusals.proofs.Stages.{slots_told}
use Rattle.ses.proofs.rewrite_configuration.Goals as goal

pub returns-in_default : goal.returns-in_default
returns-in_default c = let s = c.args in
    count_unwritten (configuration_tested s.configuration.now) (slots_of s.configuration.now) (configuration_page s.configuration.now) s.out.now
    c.configuration_slots-tested.ensures c.in_default.is c.and.ensures

pub write-requires : goal.write-requires
write-requires c = (configuration_counted c.args.configuration.now c.in-Ok.is c.configuration_slots-tested.ensures).1

pub returns : goal.returns
returns c = let a = c.args in
    let s = a.configuration.now in
    let e = slots_told (configuration_tested s) (slots_of s) c.configuration_slots-tested.ensures c.in-Ok.is in
    front_written (configuration_tested s) (configuration_page s) a.out.now e.0 c.write.ensures
