use Rattle.shelf.specs.Types.{before}
use borrow.Author.Rules.{rules}
use Rattle.shelf.proofs.types.run_of.Goals as goal

pub run_from-requires : goal.run_from-requires
unfolding before
run_from-requires c = search rules
