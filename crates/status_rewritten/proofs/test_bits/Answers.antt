use mathlib.Core.Path.{sym, ◌∙◌}
use Rattle.bits.proofs.Logic.{pick_yes, pick_no}
use Rattle.status_rewritten.proofs.test_bits.Goals as goal

pub returns-then-not-bits_formed : goal.returns-then-not-bits_formed
returns-then-not-bits_formed c = sym (pick_no _ _ _ (sym c.bits_formed.ensures ∙ c.if-not-bits_formed.true))

pub returns : goal.returns
returns c = sym (pick_yes _ _ _ (sym c.bits_formed.ensures ∙ c.if-not-bits_formed.false))
