use Rattle.element.specs.Types.{ordered}
use Rattle.element_thresholds.proofs.are_ordered.Goals as goal

pub returns : goal.returns
unfolding ordered
returns c = rw (c.at_least.ensures, c.low_ordered.ensures, c.low_order.ensures)
