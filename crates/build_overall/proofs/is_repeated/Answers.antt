use mathlib.Core.Path.{◌∙◌}
use borrow.Author.Rules.{rules}
use Rattle.build_element.proofs.Alike.{compared}
use Prim.Native.Nat.{◌-◌}
use native.Mathlib.Omega.{arith}
use Rattle.build_overall.proofs.Loops.{none_like, found_like, not_like, all_unlike}
use Rattle.build_overall.proofs.is_repeated.Goals as goal

pub loop-i-init : goal.loop-i-init
loop-i-init c = let s = c.args in (omega arith, omega arith, none_like s.wanted.now s.first s.j)

pub returns-then-eq : goal.returns-then-eq
returns-then-eq c = let s = c.args in
    let l = c.loop-i in
    found_like s.wanted.now s.first s.j l.i l.invariant.0 c.settings_in-x.ensures c.settings_in.ensures
    (c.eq.ensures ∙ compared _ _ (search rules) (search rules)) l.invariant.2 c.loop-i-test.true c.if-eq.true

pub loop-i-preserved : goal.loop-i-preserved
loop-i-preserved c = let s = c.args in
    let l = c.loop-i in
    let n = not_like s.wanted.now s.first s.j l.i l.invariant.0 c.settings_in-x.ensures c.settings_in.ensures
    (c.eq.ensures ∙ compared _ _ (search rules) (search rules)) l.invariant.2 c.if-eq.false in
    (omega (arith, l.invariant.0), omega (arith, l.invariant.0, l.invariant.1, c.loop-i-test.true), n)

pub returns : goal.returns
returns c = let s = c.args in let l = c.loop-i in all_unlike s.wanted.now s.first s.j (l.i - s.first) (omega (arith, l.invariant.0, l.invariant.1, c.loop-i-test.false)) l.invariant.2
