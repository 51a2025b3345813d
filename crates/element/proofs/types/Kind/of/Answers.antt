use mathlib.Core.Path.{◌∙◌}
use Rattle.element.proofs.KindNamed.{named_or}
use Rattle.element.proofs.types.Kind.of.Goals as goal

pub returns : goal.returns
returns c = rw c.from_code.ensures at c.unwrap_or.ensures ∙ named_or c.args.code
