use Rattle.collector.proofs.Counts.{least}
use Rattle.collector.proofs.Putting.{count_told}
use Rattle.collector.specs.Collector.{most_counted}
use Rattle.collector.proofs.count.Goals as goal

pub returns : goal.returns
returns c = count_told c.args.collector.now c.big32_at.ensures (least c.big32_at.result most_counted c.min.ensures)
