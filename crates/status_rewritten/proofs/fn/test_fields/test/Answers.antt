use mathlib.Core.Path.{sym, ◌∙◌}
use Rattle.bits.proofs.Logic.{pick_yes, pick_no}
use Rattle.status_rewritten.proofs.fn.test_fields.test.Goals as goal

pub returns-then-not-entry_formed : goal.returns-then-not-entry_formed
returns-then-not-entry_formed c = sym (pick_no _ _ _ (sym c.entry_formed.ensures ∙ c.if-not-entry_formed.true))

pub returns : goal.returns
returns c = sym (pick_yes _ _ _ (sym c.entry_formed.ensures ∙ c.if-not-entry_formed.false))
