use mathlib.Core.Path.{◌≡◌, refl, sym, ◌∙◌}
use native.Mathlib.Omega.{arith}
use Rattle.bits.proofs.Logic.{below_fails, below_next}
use Rattle.shelf_formed.specs.Formed.{slot_formed, types_formed}
use Rattle.shelf.specs.Limits.{most_types}
use Rattle.shelf_formed.proofs.types_formed.Goals as goal

pub loop-t-init : goal.loop-t-init
loop-t-init c = (omega arith, refl)

pub returns-then-not-slot_formed : goal.returns-then-not-slot_formed
unfolding types_formed
returns-then-not-slot_formed c = let a = c.args in sym (below_fails (slot_formed a.shelf.now a.n) most_types c.loop-t.t c.loop-t-test.true (sym c.slot_formed.ensures ∙ c.if-not-slot_formed.true))

pub loop-t-preserved : goal.loop-t-preserved
loop-t-preserved c = let a = c.args in (omega arith, below_next (slot_formed a.shelf.now a.n) c.loop-t.t c.loop-t.invariant.1 (sym c.slot_formed.ensures ∙ c.if-not-slot_formed.false))

pub returns : goal.returns
unfolding types_formed
returns c = let a = c.args in let e : c.loop-t.t ≡ most_types = omega arith in sym (rw e at c.loop-t.invariant.1)
