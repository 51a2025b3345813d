use mathlib.Core.Path.{ap, ◌∙◌}
use Rattle.bits.specs.Places.{four_at}
use Rattle.threshold_rows.proofs.row_at.Goals as goal

pub returns : goal.returns
returns c = c.four_at.ensures ∙ ap (four_at c.args.block.now) c.row_place.ensures
