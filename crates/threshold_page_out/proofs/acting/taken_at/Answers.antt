use Rattle.threshold_page_out.proofs.PageActs.{taken_is}
use Rattle.threshold_page_out.proofs.acting.taken_at.Goals as goal

pub returns : goal.returns
returns c = let s = c.args in taken_is s.page.now s.at c.four_at.ensures c.four_at-2.ensures c.thresholds_at.ensures c.taken.ensures
