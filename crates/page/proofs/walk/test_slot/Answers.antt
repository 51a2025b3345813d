use Rattle.std.proofs.Common.{sym, ap, ◌+◌, ◌∙◌}
use borrow.Author.Tests.{lt-ltb, le-ltb}
use Rattle.bits.proofs.Logic.{pick_yes, pick_no}
use Rattle.refusals.specs.Outcomes.{not_allowed_at}
use Rattle.page.proofs.walk.test_slot.Goals as goal

pub returns-then-k-lt4 : goal.returns-then-k-lt4
returns-then-k-lt4 c =
    c.not_allowed.ensures ∙ ap (λ m. not_allowed_at (m + c.args.k)) c.slot_place.ensures ∙ sym (pick_yes _ _ _ (lt-ltb c.args.k 4 c.if-k-lt4.true))

pub returns : goal.returns
returns c = sym (pick_no _ _ _ (le-ltb c.args.k 4 c.if-k-lt4.false))
