use Rattle.collected_page.proofs.Ending.{long_not_formed, long_other_code, long_not_said, long_not_needed}
use Rattle.collected_page.proofs.testing.test_long.Goals as goal

pub returns-in_default : goal.returns-in_default
returns-in_default c = let s = c.args in
    long_not_formed s.shelf.now s.page.now s.n s.code c.shelf-formed.ensures c.in_default.is

pub returns-in_default-meant : goal.returns-in_default-meant
returns-in_default-meant c = let s = c.args in
    long_other_code s.shelf.now s.page.now s.n s.code c.shelf-formed.ensures c.in-Ok.is c.test_meant-meant.ensures
    c.in_default-meant.is

pub returns-in_default-said : goal.returns-in_default-said
returns-in_default-said c = let s = c.args in
    long_not_said s.shelf.now s.page.now s.n s.code c.shelf-formed.ensures c.in-Ok.is c.test_meant-meant.ensures
    c.in-Ok-meant.is c.test_said-said.ensures c.in_default-said.is

pub returns : goal.returns
returns c = let s = c.args in
    long_not_needed s.shelf.now s.page.now s.n s.code c.shelf-formed.ensures c.in-Ok.is c.test_meant-meant.ensures
    c.in-Ok-meant.is c.test_said-said.ensures c.in-Ok-said.is
