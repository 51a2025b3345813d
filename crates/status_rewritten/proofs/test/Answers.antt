use Rattle.std.proofs.Common.{ap, ◌∙◌}
use Rattle.refusals.specs.Outcomes.{answer_of}
use Rattle.page.proofs.SlotsCounted.{count_dropped}
use Rattle.status_rewritten.proofs.test.Goals as goal

pub returns : goal.returns
returns c = c.and.ensures ∙ ap answer_of c.slots_tested.ensures ∙ count_dropped _ _
