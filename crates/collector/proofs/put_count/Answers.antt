use Rattle.collector.proofs.Putting.{count_put}
use Rattle.collector.proofs.put_count.Goals as goal

pub returns : goal.returns
returns c = let s = c.args in
    count_put s.collector.now s.n c.four_of.ensures c.put_four.ensures
