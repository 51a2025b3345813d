use borrow.Author.Tests.{lt-ltb, le-ltb}
use Rattle.shelf_formed.specs.Formed.{slot_formed}
use Rattle.shelf_formed.proofs.slot_formed.Goals as goal

pub returns-then-t-n : goal.returns-then-t-n
unfolding slot_formed
returns-then-t-n c = let s = c.args in rw (lt-ltb s.t s.n c.if-t-n.true) c.type_formed.ensures

pub returns-else-t-n : goal.returns-else-t-n
unfolding slot_formed
returns-else-t-n c = let s = c.args in rw (le-ltb s.t s.n c.if-t-n.false) c.type_empty.ensures
