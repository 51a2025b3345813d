use mathlib.Core.Path.{sym, ◌∙◌}
use native.Mathlib.Omega.{arith}
use lib.ListN.{get_or}
use borrow.Author.Tests.{eq-eqb, ne_eqb}
use Rattle.bits.proofs.Logic.{pick_yes, pick_no}
use Rattle.threshold_rows.proofs.test_byte.Goals as goal

pub returns-then-byte_at-ne0 : goal.returns-then-byte_at-ne0
returns-then-byte_at-ne0 c = let b = get_or c.args.page.now 1 0 in
    c.not_allowed.ensures ∙ sym (pick_no _ _ _ (ne_eqb b 0 (λ e. omega (arith, e, c.byte_at.ensures))))

pub returns : goal.returns
returns c = let b = get_or c.args.page.now 1 0 in
    sym (pick_yes _ _ _ (eq-eqb b 0 (omega (arith, c.byte_at.ensures))))
