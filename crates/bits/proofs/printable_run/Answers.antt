use mathlib.Core.Path.{◌≡◌, refl, sym, ◌∙◌}
use native.Mathlib.Omega.{arith}
use Rattle.bits.proofs.Texts.{run_stopped, run_whole}
use Rattle.bits.proofs.printable_run.Goals as goal

pub returns-then-not-is_printable : goal.returns-then-not-is_printable
returns-then-not-is_printable c = let q = c.args in
    let l = c.loop-i in
    run_stopped q.s.now q.at q.n l.i c.loop-i-test.true l.invariant refl (sym c.is_printable.ensures ∙ c.if-not-is_printable.true)

pub returns : goal.returns
returns c = let q = c.args in
    let e : c.loop-i.i ≡ q.n = omega arith in
    run_whole q.s.now q.at q.n (rw e at c.loop-i.invariant)
