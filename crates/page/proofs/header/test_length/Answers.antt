use Rattle.page.proofs.HeaderTests.{length_differs, length-passed}
use Rattle.page.proofs.header.test_length.Goals as goal

pub returns-then-page-needed : goal.returns-then-page-needed
returns-then-page-needed c = let s = c.args in length_differs s.page.now s.needed c.if-page-needed.true

pub returns : goal.returns
returns c = let s = c.args in length-passed s.page.now s.needed c.if-page-needed.false
