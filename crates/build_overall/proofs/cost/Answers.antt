use Prim.Native.Nat.{◌-◌}
use native.Mathlib.Omega.{arith}
use lib.ListN.{get_or}
use borrow.Author.Rules.{rules}
use Rattle.build_overall.proofs.Loops.{bool_small, counted_none, counted_next, counted_all}
use mir.Val.{Fits}
use mir.Syntax.{w8, w16}
use mathlib.Core.Bool.{not}
use Rattle.build_overall.proofs.cost.Goals as goal

pub overflow_cast-n : goal.overflow_cast-n
overflow_cast-n c = let s = c.args in let h : Fits w8 (get_or s.overall 0 0) = search rules in omega (arith, h)

pub loop-j-init : goal.loop-j-init
loop-j-init c = let s = c.args in let h : Fits w8 (get_or s.overall 0 0) = search rules in let k = counted_none s.shelf.now s.wanted.now s.at s.overall (omega (arith, h)) in (omega arith, omega arith, omega (arith, k.0), k.1)

pub overflow_add-n : goal.overflow_add-n
overflow_add-n c = let l = c.loop-j in let h : Fits w16 l.j = search rules in omega (arith, bool_small (not c.brings-done.result), l.invariant.2, h)

pub loop-j-preserved : goal.loop-j-preserved
loop-j-preserved c = let s = c.args in
    let l = c.loop-j in
    let t = c.loop-j-test.true in
    let b = bool_small (not c.brings-done.result) in
    let n = counted_next s.shelf.now s.wanted.now s.at s.overall l.j l.invariant.0 c.settings_at.ensures
    c.settings_in.ensures c.brings-done.ensures l.invariant.3 in
    (omega (arith, l.invariant.0), omega (arith, l.invariant.0, l.invariant.1, t), omega (arith, l.invariant.2, b), n)

pub returns : goal.returns
returns c = let s = c.args in let l = c.loop-j in counted_all s.shelf.now s.wanted.now s.at s.overall (l.j - s.at.first) (omega (arith, l.invariant.0, l.invariant.1, c.loop-j-test.false)) l.invariant.3
