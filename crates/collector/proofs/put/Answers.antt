use Rattle.collector.proofs.Putting.{chunk_put}
use Rattle.collector.proofs.put.Goals as goal

pub returns : goal.returns
returns c = let s = c.args in
    chunk_put s.collector.now s.chunk.now c.count-n.ensures c.keep.ensures c.at_most.ensures
    c.put_count.ensures
