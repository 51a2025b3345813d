use mathlib.Core.Path.{sym}
use native.Mathlib.Omega.{arith}
use lib.ListN.{length}
use borrow.Author.Tests.{eq-eqb, ne_eqb}
use Rattle.bits.proofs.Logic.{pick_yes, pick_no}
use Rattle.shelf.specs.Limits.{block_length}
use Rattle.shelf_formed.proofs.open_block.Goals as goal

pub returns-then-shelf-block_length : goal.returns-then-shelf-block_length
returns-then-shelf-block_length c = let s = c.args in
    sym (pick_yes _ _ _ (eq-eqb (length s.shelf.now) (block_length s.sizes.types s.sizes.elements) (omega (arith, c.block_length.ensures, c.if-shelf-block_length.true))))

pub returns-else-shelf-block_length : goal.returns-else-shelf-block_length
returns-else-shelf-block_length c = let s = c.args in
    sym (pick_no _ _ _ (ne_eqb (length s.shelf.now) (block_length s.sizes.types s.sizes.elements) (λ e. omega (arith, e, c.block_length.ensures, c.if-shelf-block_length.false))))
