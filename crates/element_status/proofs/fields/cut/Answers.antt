use mathlib.Core.Path.{refl}
use Rattle.element.specs.StatusLayout.{cut_at}
use Rattle.element_status.proofs.fields.cut.Goals as goal

pub returns : goal.returns
unfolding cut_at
returns c = refl
