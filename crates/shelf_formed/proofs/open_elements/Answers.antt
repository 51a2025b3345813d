use mathlib.Core.Path.{sym, ◌∙◌}
use native.Mathlib.Omega.{arith}
use Rattle.shelf_formed.proofs.Opening.{no_length, has_elements, each_formed, not_each}
use Rattle.shelf_formed.proofs.open_elements.Goals as goal

pub returns-in_err-open_block : goal.returns-in_err-open_block
returns-in_err-open_block c = let s = c.args in
    rw c.from_residual.ensures (no_length s.shelf.now s.sizes c.open_block.ensures c.in_err-open_block.was)

pub elements_formed-requires : goal.elements_formed-requires
elements_formed-requires c = let s = c.args in
    omega (arith, has_elements s.shelf.now s.sizes c.open_block.ensures c.in_ok-open_block.was)

pub returns-then-elements_formed : goal.returns-then-elements_formed
returns-then-elements_formed c = let s = c.args in
    each_formed s.shelf.now s.sizes c.open_block.ensures c.in_ok-open_block.was
    (sym c.elements_formed.ensures ∙ c.if-elements_formed.true)

pub returns-else-elements_formed : goal.returns-else-elements_formed
returns-else-elements_formed c = let s = c.args in
    not_each s.shelf.now s.sizes c.open_block.ensures c.in_ok-open_block.was
    (sym c.elements_formed.ensures ∙ c.if-elements_formed.false)
