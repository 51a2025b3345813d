use Rattle.control_page.proofs.PageActs.{acted_by}
use Rattle.control_page.proofs.acting.act_by.Goals as goal

pub returns : goal.returns
returns c = let s = c.args in
    acted_by s.shelf.now s.j s.kind s.e c.requires.e_value
    c.of-control.ensures
    c.settings_at.ensures
    c.of.ensures c.act-set.ensures
    c.bytes.ensures c.put_settings.ensures
