use mathlib.Core.Path.{sym, ◌∙◌}
use Rattle.bits.proofs.Logic.{pick_yes, pick_no}
use Rattle.shelf_formed.proofs.Opening.{formed_sizes, not_formed}
use Rattle.page.proofs.testing.shelf.Goals as goal

pub returns-in_default : goal.returns-in_default
returns-in_default c = let s = c.args.shelf.now in sym (pick_no _ _ _ (not_formed s (sym c.open_shelf-opened.ensures ∙ c.in_default.is)))

pub returns : goal.returns
returns c = let s = c.args.shelf.now in sym (pick_yes _ _ _ (formed_sizes s (sym c.open_shelf-opened.ensures ∙ c.in-Some.is)).0)
