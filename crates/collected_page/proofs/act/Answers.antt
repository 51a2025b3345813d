use native.Mathlib.Omega.{arith}
use Rattle.collected_page.proofs.Ending.{whole_ended, long_ended, frame_there}
use Rattle.collected_page.proofs.act.Goals as goal

pub returns-then-n-le-MOST_KEPT : goal.returns-then-n-le-MOST_KEPT
returns-then-n-le-MOST_KEPT c = let s = c.args in
    whole_ended s.collector.now s.shelf.now s.code c.count-n.ensures c.first.ensures c.apply.ensures

pub test_long-requires : goal.test_long-requires
test_long-requires c = frame_there c.args.collector.now c.first-page.ensures

pub returns : goal.returns
returns c = let s = c.args in
    long_ended s.collector.now s.shelf.now s.code c.count-n.ensures (omega (arith, c.if-n-le-MOST_KEPT.false)) c.first-page.ensures
    c.test_long.ensures c.of_page.ensures
