use mathlib.Core.Path.{sym, ◌∙◌}
use borrow.Author.Tests.{le-leb, lt-leb}
use Rattle.bits.proofs.Logic.{pick_yes, pick_no}
use Rattle.shelf_formed.proofs.open_front.Goals as goal

pub returns-then-shelf-ge-CONFIGURATION : goal.returns-then-shelf-ge-CONFIGURATION
returns-then-shelf-ge-CONFIGURATION c = c.front.ensures ∙ sym (pick_yes _ _ _ (le-leb _ _ c.if-shelf-ge-CONFIGURATION.true))

pub returns-else-shelf-ge-CONFIGURATION : goal.returns-else-shelf-ge-CONFIGURATION
returns-else-shelf-ge-CONFIGURATION c = sym (pick_no _ _ _ (lt-leb _ _ c.if-shelf-ge-CONFIGURATION.false))
