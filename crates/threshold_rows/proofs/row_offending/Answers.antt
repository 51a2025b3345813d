use mathlib.Core.Path.{sym, ◌∙◌}
use Rattle.bits.proofs.Logic.{pick_yes}
use Rattle.threshold_rows.proofs.row_offending.Goals as goal

pub returns-then-overall : goal.returns-then-overall
returns-then-overall c = c.first_set.ensures ∙ sym (pick_yes _ _ _ c.if-overall.true)
