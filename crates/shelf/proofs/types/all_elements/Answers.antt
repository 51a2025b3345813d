use Rattle.shelf.specs.Types.{elements_of}
use borrow.Author.Rules.{rules}
use Rattle.shelf.proofs.types.all_elements.Goals as goal

pub returns : goal.returns
unfolding elements_of
returns c = search rules
