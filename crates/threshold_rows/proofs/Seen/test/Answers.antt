use Rattle.std.specs.Prelude.{Ok}
use Rattle.refusals.specs.declared.Refusal.TheVariants.{NoSuchThreshold, ThresholdOrder}
use Rattle.refusals.specs.Outcomes.{unless}
use Rattle.refusals.proofs.Stages.{stopped, gone_on}
use Rattle.threshold_rows.proofs.Seen.test.Goals as goal

pub returns-in_default : goal.returns-in_default
returns-in_default c = let s = c.args in
    stopped (unless s.self.had NoSuchThreshold (Ok tt)) (unless s.self.ordered ThresholdOrder (Ok tt)) c.test_had-had.ensures
    c.in_default.is

pub returns : goal.returns
returns c = let s = c.args in
    gone_on (unless s.self.had NoSuchThreshold (Ok tt)) (unless s.self.ordered ThresholdOrder (Ok tt)) c.test_had-had.ensures
    c.in-Ok.is c.test_order.ensures
