use mathlib.Core.Path.{sym, ◌∙◌}
use Rattle.bits.proofs.Logic.{pick_yes, pick_no}
use Rattle.collected_page.specs.Meant.{meant_code}
use Rattle.collected_page.proofs.testing.test_meant.Goals as goal

pub returns-then-code : goal.returns-then-code
unfolding meant_code
returns-then-code c = c.test_code.ensures ∙ sym (pick_yes _ _ _ c.if-code.true)

pub returns : goal.returns
unfolding meant_code
returns c = sym (pick_no _ _ _ c.if-code.false)
