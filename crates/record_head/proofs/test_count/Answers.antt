use Rattle.record_head.proofs.Counted.{other_count, same_count}
use Rattle.record_head.proofs.test_count.Goals as goal

pub returns-then-big16_at-n : goal.returns-then-big16_at-n
returns-then-big16_at-n c = let s = c.args in other_count s.fields.now s.n c.big16_at.ensures c.if-big16_at-n.true

pub returns : goal.returns
returns c = let s = c.args in same_count s.fields.now s.n c.big16_at.ensures c.if-big16_at-n.false
