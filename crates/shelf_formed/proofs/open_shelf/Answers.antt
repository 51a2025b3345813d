use Rattle.shelf_formed.proofs.Opening.{no_front, elements_last}
use Rattle.shelf_formed.proofs.open_shelf.Goals as goal

pub returns-in_err-sizes : goal.returns-in_err-sizes
returns-in_err-sizes c = rw c.from_residual.ensures (no_front c.args.shelf.now c.open_front.ensures c.in_err-sizes.was)

pub returns : goal.returns
returns c = elements_last c.args.shelf.now c.open_front.ensures c.in_ok-sizes.was c.open_elements.ensures
