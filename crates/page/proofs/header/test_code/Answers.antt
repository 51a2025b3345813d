use mathlib.Core.Path.{sym, ◌∙◌}
use borrow.Author.Tests.{eq-eqb, ne_eqb}
use Rattle.bits.proofs.Logic.{pick_yes, pick_no}
use Rattle.page.specs.Header.{code_tested}
use Rattle.page.proofs.header.test_code.Goals as goal

pub returns-then-byte_at-code : goal.returns-then-byte_at-code
unfolding code_tested
returns-then-byte_at-code c = sym (pick_no _ _ _ (ne_eqb _ c.args.code (λ e. c.if-byte_at-code.true (c.byte_at.ensures ∙ e))))

pub returns : goal.returns
unfolding code_tested
returns c = sym (pick_yes _ _ _ (eq-eqb _ c.args.code (sym c.byte_at.ensures ∙ c.if-byte_at-code.false)))
