use mathlib.Core.Path.{refl}
use Rattle.element.specs.StatusLayout.{put_onto}
use Rattle.element_status.proofs.fields.put_onto.Goals as goal

pub returns : goal.returns
unfolding put_onto
returns c = refl
