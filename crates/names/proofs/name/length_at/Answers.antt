use borrow.Author.Rules.{rules}
use Rattle.names.specs.Name.{name_length}
use Rattle.names.proofs.name.length_at.Goals as goal

pub returns : goal.returns
unfolding name_length
returns c = search rules
