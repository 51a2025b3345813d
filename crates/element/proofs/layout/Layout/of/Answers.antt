use mathlib.Core.Path.{ap}
use Rattle.element.specs.declared.types.TypeRules.{TypeRules}
use Rattle.element.specs.Types.{layout_of}
use Rattle.element.proofs.layout.Layout.of.Goals as goal

pub returns : goal.returns
unfolding layout_of
returns c = ap (λ (r : TypeRules). r.layout) c.rules.ensures
