use mathlib.Core.Path.{sym, ◌∙◌}
use Rattle.bits.proofs.Logic.{pick_yes, pick_no}
use Rattle.status_page.specs.Page.{slot_bytes}
use Rattle.status_page.proofs.writing.slot_bytes.Goals as goal

pub returns-then-at : goal.returns-then-at
unfolding slot_bytes
returns-then-at c = sym (pick_yes _ _ _ c.if-at.true)

pub returns-else-at : goal.returns-else-at
unfolding slot_bytes
returns-else-at c = c.bytes.ensures ∙ sym (pick_no _ _ _ c.if-at.false)
