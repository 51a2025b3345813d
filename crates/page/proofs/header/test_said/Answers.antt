use mathlib.Core.Path.{sym, ap, ◌∙◌}
use Prim.Native.Nat.{◌+◌}
use borrow.Author.Tests.{eq-eqb, ne_eqb}
use Rattle.bits.proofs.Logic.{pick_yes, pick_no}
use Rattle.page.proofs.header.test_said.Goals as goal

pub returns-then-given-big16_at : goal.returns-then-given-big16_at
returns-then-given-big16_at c = sym (pick_no _ _ _ (ne_eqb _ _ (λ e. c.if-given-big16_at.true (e ∙ sym (ap (λ n. n + 4) c.big16_at.ensures)))))

pub returns : goal.returns
returns c = sym (pick_yes _ _ _ (eq-eqb _ _ (c.if-given-big16_at.false ∙ ap (λ n. n + 4) c.big16_at.ensures)))
