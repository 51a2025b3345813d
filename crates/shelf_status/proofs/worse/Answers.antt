use Rattle.shelf_status.proofs.worse.Goals as goal

pub returns-then-a-b : goal.returns-then-a-b
returns-then-a-b c = rw c.if-a-b.true

pub returns-then-a-b-2 : goal.returns-then-a-b-2
returns-then-a-b-2 c = rw (c.if-a-b.false, c.if-a-b-2.true)

pub returns-then-a-b-3 : goal.returns-then-a-b-3
returns-then-a-b-3 c = rw (c.if-a-b.false, c.if-a-b-2.false, c.if-a-b-3.true)

pub returns-then-a-b-4 : goal.returns-then-a-b-4
returns-then-a-b-4 c = rw (c.if-a-b.false, c.if-a-b-2.false, c.if-a-b-3.false, c.if-a-b-4.true)

pub returns-else-a-b-4 : goal.returns-else-a-b-4
returns-else-a-b-4 c = rw (c.if-a-b.false, c.if-a-b-2.false, c.if-a-b-3.false, c.if-a-b-4.false)
