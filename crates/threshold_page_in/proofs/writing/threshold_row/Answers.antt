use mathlib.Core.Path.{sym, ◌∙◌}
use Rattle.bits.proofs.Logic.{pick_yes, pick_no}
use native.Mathlib.Omega.{arith}
use Rattle.threshold_page_in.proofs.writing.threshold_row.Goals as goal

pub thresholds_at-requires : goal.thresholds_at-requires
thresholds_at-requires c = omega (arith, c.requires.0, c.requires.1 c.if-at.false)

pub returns-then-at : goal.returns-then-at
returns-then-at c = sym (pick_yes _ _ _ c.if-at.true)

pub returns-else-at : goal.returns-else-at
returns-else-at c = c.thresholds_at.ensures ∙ sym (pick_no _ _ _ c.if-at.false)
