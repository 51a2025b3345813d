use Rattle.std.proofs.Common.{sym}
use Rattle.build_page.proofs.Loops.{reach_at}
use Rattle.build_page.proofs.testing.fn.test_reach.all_hold.Goals as goal

pub returns : goal.returns
returns c = sym (reach_at c.captures.shelf.now c.captures.wanted.now c.args.j c.requires.run_value c.settings_at.ensures c.settings_in.ensures c.in_reach.ensures)
