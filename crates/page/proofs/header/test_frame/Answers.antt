use Rattle.page.proofs.HeaderTests.{too_short, has_frame, other_code, said_last}
use Rattle.page.proofs.header.test_frame.Goals as goal

pub returns-in_default : goal.returns-in_default
returns-in_default c = let s = c.args in
    too_short s.page.now s.code c.test_size-size.ensures c.in_default.is

pub test_code-named-requires : goal.test_code-named-requires
test_code-named-requires c = let s = c.args in
    has_frame s.page.now s.code c.test_size-size.ensures c.in-Ok.is

pub returns-in_default-named : goal.returns-in_default-named
returns-in_default-named c = let s = c.args in
    other_code s.page.now s.code c.test_size-size.ensures c.in-Ok.is c.test_code-named.ensures
    c.in_default-named.is

pub test_said-requires : goal.test_said-requires
test_said-requires c = let s = c.args in
    has_frame s.page.now s.code c.test_size-size.ensures c.in-Ok.is

pub returns : goal.returns
returns c = let s = c.args in
    said_last s.page.now s.code c.test_size-size.ensures c.in-Ok.is c.test_code-named.ensures
    c.in-Ok-named.is c.test_said.ensures
