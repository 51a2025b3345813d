use Rattle.shelf_formed.specs.Formed.{element_formed, elements_formed}
use Rattle.shelf_formed.proofs.elements_formed.Goals as goal

pub returns : goal.returns
unfolding elements_formed
returns c = c.all_hold.ensures (element_formed c.args.shelf.now) (λ j l b h. h.1)
