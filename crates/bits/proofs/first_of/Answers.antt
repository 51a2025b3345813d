use Rattle.bits.specs.Choice.{first_of}
use Rattle.bits.proofs.first_of.Goals as goal

pub returns-then-not-a : goal.returns-then-not-a
unfolding first_of
returns-then-not-a c = rw (c.if-not-a.true)

pub returns-then-not-b : goal.returns-then-not-b
unfolding first_of
returns-then-not-b c = rw (c.if-not-a.false, c.if-not-b.true)

pub returns-then-not-c : goal.returns-then-not-c
unfolding first_of
returns-then-not-c c = rw (c.if-not-a.false, c.if-not-b.false, c.if-not-c.true)

pub returns-then-not-d : goal.returns-then-not-d
unfolding first_of
returns-then-not-d c = rw (c.if-not-a.false, c.if-not-b.false, c.if-not-c.false, c.if-not-d.true)

pub returns-else-not-d : goal.returns-else-not-d
unfolding first_of
returns-else-not-d c = rw (c.if-not-a.false, c.if-not-b.false, c.if-not-c.false, c.if-not-d.false)
