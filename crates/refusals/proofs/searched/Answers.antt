use mathlib.Core.Path.{sym, ◌∙◌}
use borrow.Author.Tests.{eq-eqb, ne_eqb}
use Rattle.bits.proofs.Logic.{pick_yes, pick_no}
use Rattle.refusals.proofs.searched.Goals as goal

pub returns-then-k-n : goal.returns-then-k-n
returns-then-k-n c = let s = c.args in c.not_allowed.ensures ∙ sym (pick_no _ _ _ (ne_eqb s.k s.n c.if-k-n.true))

pub returns : goal.returns
returns c = let s = c.args in sym (pick_yes _ _ _ (eq-eqb s.k s.n c.if-k-n.false))
