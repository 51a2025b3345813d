use Rattle.element.proofs.Calls.{said_is}
use Rattle.element.proofs.settings.said.Goals as goal

pub returns : goal.returns
returns c = let s = c.args in said_is s.layout s.e
