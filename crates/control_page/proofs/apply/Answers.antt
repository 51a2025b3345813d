use mathlib.Core.Path.{sym, ◌∙◌}
use Rattle.control_page.proofs.PageActs.{accepted_room, refused_after, accepted_after}
use Rattle.control_page.proofs.apply.Goals as goal

pub returns-in_default : goal.returns-in_default
returns-in_default c = let s = c.args in (c.test-tested.ensures, refused_after s.shelf.now s.page.now c.test-tested.ensures c.in_default.is)

pub act-requires : goal.act-requires
act-requires c = let s = c.args in accepted_room s.shelf.now s.page.now c.test-tested.ensures c.in-Ok.is

pub returns : goal.returns
returns c = let s = c.args in
    let h = c.test-tested.ensures in
    let u = c.in-Ok.is in
    (sym u ∙ h, accepted_after s.shelf.now s.page.now h u c.act.ensures)
