use mathlib.Core.Path.{sym, ◌∙◌}
use Rattle.bits.proofs.Logic.{pick_yes, pick_no}
use Rattle.element_control.proofs.FirstRefused.{offends_reserved}
use Rattle.element_control.proofs.Control.offending.Goals as goal

pub returns-then-is_selected : goal.returns-then-is_selected
returns-then-is_selected c = let s = c.args in
    c.reserved.ensures ∙ sym (offends_reserved s.kind s.e ∙ pick_yes _ _ _ (sym c.is_selected.ensures ∙ c.if-is_selected.true))

pub returns-else-is_selected : goal.returns-else-is_selected
returns-else-is_selected c = let s = c.args in
    sym (offends_reserved s.kind s.e ∙ pick_no _ _ _ (sym c.is_selected.ensures ∙ c.if-is_selected.false))
