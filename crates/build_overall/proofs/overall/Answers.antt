use Prim.Native.Nat.{◌-◌}
use native.Mathlib.Omega.{arith}
use Rattle.build_overall.proofs.Loops.{none_chosen, first_best, next_best, all_best}
use Rattle.build_overall.proofs.overall.Goals as goal

pub returns-then-selects-le1 : goal.returns-then-selects-le1
returns-then-selects-le1 c = let s = c.args in none_chosen s.shelf.now s.wanted.now s.at c.cost-selects.ensures c.if-selects-le1.true

pub loop-j-init : goal.loop-j-init
loop-j-init c = let s = c.args in (omega arith, omega arith, first_best s.shelf.now s.wanted.now s.at c.cost-selects.ensures)

pub consider-best-requires : goal.consider-best-requires
consider-best-requires c = let l = c.loop-j in record { has_wishes = c.requires; first_le_j = (l.invariant.0, c.loop-j-test.true); best_value = l.invariant.2 }

pub loop-j-preserved : goal.loop-j-preserved
loop-j-preserved c = let s = c.args in let l = c.loop-j in (omega (arith, l.invariant.0), omega (arith, l.invariant.0, l.invariant.1, c.loop-j-test.true), next_best s.shelf.now s.wanted.now s.at l.j l.invariant.0 c.consider-best.ensures)

pub returns : goal.returns
returns c = let s = c.args in let l = c.loop-j in all_best s.shelf.now s.wanted.now s.at (l.j - s.at.first) (omega (arith, l.invariant.0, l.invariant.1, c.loop-j-test.false)) l.invariant.2
