use native.Mathlib.Omega.{arith}
use mathlib.Core.Path.{sym}
use mathlib.Core.Bool.{or-true, or-false}
use borrow.Author.Tests.{ne_eqb}
use Rattle.shelf_status.proofs.PageBits.with.Goals as goal

pub returns-in-2 : goal.returns-in-2
returns-in-2 c = let b = c.args.self in
    rw c.in-2.is (λ i. record { noncritical = sym (or-false b.noncritical) i; critical = sym (or-true b.critical) i })

pub returns-in-3 : goal.returns-in-3
returns-in-3 c = let b = c.args.self in
    rw c.in-3.is (λ i. record { noncritical = sym (or-true b.noncritical) i; critical = sym (or-false b.critical) i })

pub returns-in_default : goal.returns-in_default
returns-in_default c = let b = c.args.self in
    let n = c.args.code in
    rw (ne_eqb n 2 (λ e. omega (arith, e)), ne_eqb n 3 (λ e. omega (arith, e)))
    (λ i. record { noncritical = sym (or-false b.noncritical) i; critical = sym (or-false b.critical) i })
