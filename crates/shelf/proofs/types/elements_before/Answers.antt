use mathlib.Core.Path.{sym}
use native.Mathlib.Omega.{arith}
use Rattle.shelf.proofs.ElementsBefore.{before_none, ended}
use Rattle.shelf.proofs.types.elements_before.Goals as goal

pub loop-t-init : goal.loop-t-init
loop-t-init c = (omega arith, sym (before_none _))

pub loop-t-preserved : goal.loop-t-preserved
loop-t-preserved c = (omega arith, ended c.args.shelf.now c.loop-t.t c.loop-t.invariant.1 c.elements_of.ensures)
