use Rattle.build_overall.proofs.Loops.{one_better, none_better}
use Rattle.build_overall.proofs.try_one.Goals as goal

pub returns-then-sooner : goal.returns-then-sooner
returns-then-sooner c = let s = c.args in one_better s.shelf.now s.wanted.now s.at s.best s.overall c.cost-selects.ensures c.sooner.ensures c.if-sooner.true

pub returns-else-sooner : goal.returns-else-sooner
returns-else-sooner c = let s = c.args in none_better s.shelf.now s.wanted.now s.at s.best s.overall c.cost-selects.ensures c.sooner.ensures c.if-sooner.false
