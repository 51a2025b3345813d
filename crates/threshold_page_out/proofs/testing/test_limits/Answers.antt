use Rattle.threshold_page_out.proofs.Tests.{not_had, order_last, rows_there}
use Rattle.threshold_page_out.proofs.testing.test_limits.Goals as goal

pub test_had-had-requires : goal.test_had-had-requires
test_had-had-requires c = rows_there c.args.shelf.now c.args.page.now c.requires.has_page c.requires.n_value

pub returns-in_default : goal.returns-in_default
returns-in_default c = let s = c.args in
    not_had s.shelf.now s.page.now s.n c.test_had-had.ensures c.in_default.is

pub test_order-requires : goal.test_order-requires
test_order-requires c = c.requires.has_page

pub returns : goal.returns
returns c = let s = c.args in
    order_last s.shelf.now s.page.now s.n c.test_had-had.ensures c.in-Ok.is
    c.test_order.ensures
