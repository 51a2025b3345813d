use native.Mathlib.Omega.{arith}
use Rattle.build_overall.proofs.Loops.{upto_next, upto_all}
use Rattle.build_overall.proofs.try_record.Goals as goal

pub loop-v-init : goal.loop-v-init
loop-v-init c = (omega arith, c.requires.best_value)

pub loop-v-preserved : goal.loop-v-preserved
loop-v-preserved c = let s = c.args in let l = c.loop-v in (omega arith, upto_next s.shelf.now s.wanted.now s.at s.x s.best.overall l.v l.invariant.1 c.tried.ensures c.try_one-best.ensures)

pub returns : goal.returns
returns c = let s = c.args in let l = c.loop-v in upto_all s.shelf.now s.wanted.now s.at s.x s.best.overall l.v c.tries-n.ensures (omega (arith, l.invariant.0, c.loop-v-test.false)) l.invariant.1
