use mathlib.Core.Path.{sym}
use native.Mathlib.Omega.{arith}
use lib.ListN.{length}
use borrow.Author.Tests.{le-leb, lt-leb}
use Rattle.bits.proofs.Logic.{pick_yes, pick_no}
use Rattle.page.specs.Header.{size_tested}
use Rattle.page.proofs.header.test_size.Goals as goal

pub returns-then-page-lt4 : goal.returns-then-page-lt4
unfolding size_tested
returns-then-page-lt4 c = sym (pick_no _ _ _ (lt-leb 4 (length c.args.page.now) (omega arith)))

pub returns : goal.returns
unfolding size_tested
returns c = sym (pick_yes _ _ _ (le-leb 4 (length c.args.page.now) (omega arith)))
