use mathlib.Core.Path.{sym}
use borrow.Author.Tests.{eq-eqb, ne_eqb}
use Rattle.bits.proofs.Logic.{pick_yes, pick_no}
use Rattle.build_page.proofs.testing.test_number.Goals as goal

pub returns-then-wanted-n : goal.returns-then-wanted-n
returns-then-wanted-n c = sym (pick_no _ _ _ (ne_eqb _ _ c.if-wanted-n.true))

pub returns : goal.returns
returns c = sym (pick_yes _ _ _ (eq-eqb _ _ c.if-wanted-n.false))
