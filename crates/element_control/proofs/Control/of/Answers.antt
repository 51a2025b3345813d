use mathlib.Core.Path.{sym, ap, ◌∙◌}
use mathlib.Core.Bool.{false}
use Rattle.bits.proofs.Logic.{pick_yes, pick_no}
use Rattle.element.specs.Settings.{settings_of}
use Rattle.element_control.specs.Control.{selected, unselected, requesting, control_of}
use Rattle.element_control.proofs.Control.of.Goals as goal

pub returns-then-is_selected : goal.returns-then-is_selected
unfolding control_of
returns-then-is_selected c = let s = c.args in
    let t = sym c.is_selected.ensures ∙ c.if-is_selected.true in
    ap requesting c.of-request.ensures ∙ sym (pick_yes (selected s.e) (requesting (settings_of s.kind s.e)) unselected t)

-- four zeros ask for nothing
pub returns-else-is_selected : goal.returns-else-is_selected
unfolding control_of settings_of
returns-else-is_selected c = let s = c.args in
    let t = sym c.is_selected.ensures ∙ c.if-is_selected.false in
    let q = c.of-request-else-is_selected.ensures in
    (λ i. record { select = false; request = q i })
    ∙ sym (pick_no (selected s.e) (requesting (settings_of s.kind s.e)) unselected t)
