use mathlib.Core.Path.{◌∙◌}
use Rattle.element.proofs.KindNamed.{named_served}
use Rattle.element.proofs.types.Kind.is_served.Goals as goal

pub returns : goal.returns
returns c = rw c.from_code.ensures at c.is_some.ensures ∙ named_served c.args.code
