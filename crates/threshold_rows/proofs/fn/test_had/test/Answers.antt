use Rattle.std.proofs.Common.{sym, ap, ◌∙◌}
use Rattle.bits.proofs.Logic.{pick_yes, pick_no}
use Rattle.element.specs.Types.{had}
use Rattle.threshold_rows.proofs.fn.test_had.test.Goals as goal

pub returns-then-not-are_had : goal.returns-then-not-are_had
returns-then-not-are_had c =
    sym (pick_no _ _ _ (sym (c.are_had.ensures ∙ ap (had c.args.at.kind) c.row_at.ensures) ∙ c.if-not-are_had.true))

pub returns : goal.returns
returns c =
    sym (pick_yes _ _ _ (sym (c.are_had.ensures ∙ ap (had c.args.at.kind) c.row_at.ensures) ∙ c.if-not-are_had.false))
