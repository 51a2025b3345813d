use mathlib.Core.Path.{◌≡◌}
use native.Mathlib.Omega.{arith}
use borrow.Author.Rules.{rules}
use Rattle.shelf.specs.Limits.{most_types}
use Rattle.shelf.proofs.ElementsBefore.{ended, before_small}
use Rattle.shelf.proofs.TypeRuns.{type_here, type_none, ended_next, run_is}
use Rattle.shelf.proofs.types.run_from.Goals as goal

pub loop-number-init : goal.loop-number-init
loop-number-init c = let s = c.args in let b = before_small s.shelf.now (search rules) s.t in (omega (arith, b, c.requires.start_value), c.requires.start_value, c.requires.t_value)

pub returns-then-j-end : goal.returns-then-j-end
returns-then-j-end c = let q = c.args in
    let s = q.shelf.now in
    let l = c.loop-number in
    let e = ended s l.number l.invariant.1 c.elements_of.ensures in
    let here = type_here s q.j l.number c.loop-number-test.true l.invariant.2 (rw e at c.if-j-end.true) in
    run_is s q.j here l.invariant.1 e c.run_with.ensures

pub loop-number-preserved : goal.loop-number-preserved
loop-number-preserved c = let s = c.args in let l = c.loop-number in let e = ended s.shelf.now l.number l.invariant.1 c.elements_of.ensures in (omega arith, e, ended_next s.shelf.now s.j l.number l.invariant.2 (rw e at c.if-j-end.false))

pub returns : goal.returns
returns c = let s = c.args in let l = c.loop-number in let t : l.number ≡ most_types = omega arith in
    run_is s.shelf.now s.j (type_none s.shelf.now s.j (rw t at l.invariant.2)) (rw t at l.invariant.1) (ended s.shelf.now most_types (rw t at l.invariant.1) c.elements_of-2.ensures) c.run_with-2.ensures
