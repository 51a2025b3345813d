use lib.ListN.{get_or}
use borrow.Author.Tests.{eq-eqb, ne_eqb}
use Rattle.threshold_rows.specs.Rows.{first_set}
use Rattle.threshold_rows.proofs.first_set.Goals as goal

pub returns-then-e-ne0 : goal.returns-then-e-ne0
unfolding first_set
returns-then-e-ne0 c = rw (ne_eqb (get_or c.args.e 0 0) 0 c.if-e-ne0.true)

pub returns-then-e-ne0-2 : goal.returns-then-e-ne0-2
unfolding first_set
returns-then-e-ne0-2 c = rw (eq-eqb (get_or c.args.e 0 0) 0 c.if-e-ne0.false, ne_eqb (get_or c.args.e 1 0) 0 c.if-e-ne0-2.true)

pub returns-then-e-ne0-3 : goal.returns-then-e-ne0-3
unfolding first_set
returns-then-e-ne0-3 c = rw (eq-eqb (get_or c.args.e 0 0) 0 c.if-e-ne0.false, eq-eqb (get_or c.args.e 1 0) 0 c.if-e-ne0-2.false, ne_eqb (get_or c.args.e 2 0) 0 c.if-e-ne0-3.true)

pub returns-then-e-ne0-4 : goal.returns-then-e-ne0-4
unfolding first_set
returns-then-e-ne0-4 c = rw (eq-eqb (get_or c.args.e 0 0) 0 c.if-e-ne0.false, eq-eqb (get_or c.args.e 1 0) 0 c.if-e-ne0-2.false, eq-eqb (get_or c.args.e 2 0) 0 c.if-e-ne0-3.false, ne_eqb (get_or c.args.e 3 0) 0 c.if-e-ne0-4.true)

pub returns-else-e-ne0-4 : goal.returns-else-e-ne0-4
unfolding first_set
returns-else-e-ne0-4 c = rw (eq-eqb (get_or c.args.e 0 0) 0 c.if-e-ne0.false, eq-eqb (get_or c.args.e 1 0) 0 c.if-e-ne0-2.false, eq-eqb (get_or c.args.e 2 0) 0 c.if-e-ne0-3.false, eq-eqb (get_or c.args.e 3 0) 0 c.if-e-ne0-4.false)
