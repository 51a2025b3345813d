use Rattle.collected_page.proofs.Ending.{other_not_formed, other_short, other_code}
use Rattle.collected_page.proofs.testing.test_other.Goals as goal

pub returns-in_default : goal.returns-in_default
returns-in_default c = let s = c.args in
    other_not_formed s.shelf.now s.page.now c.shelf-formed.ensures c.in_default.is

pub returns-in_default-size : goal.returns-in_default-size
returns-in_default-size c = let s = c.args in
    other_short s.shelf.now s.page.now c.shelf-formed.ensures c.in-Ok.is c.test_size-size.ensures c.in_default-size.is

pub returns : goal.returns
returns c = let s = c.args in
    other_code s.shelf.now s.page.now c.shelf-formed.ensures c.in-Ok.is c.test_size-size.ensures c.in-Ok-size.is
