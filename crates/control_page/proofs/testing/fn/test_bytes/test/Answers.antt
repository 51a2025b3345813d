use Rattle.std.proofs.Common.{ap, ◌∙◌}
use Rattle.page.specs.Walk.{slot_tested}
use Rattle.control_page.proofs.testing.fn.test_bytes.test.Goals as goal

pub returns : goal.returns
returns c = c.test_slot.ensures ∙ ap (slot_tested c.args.i) c.slot_offending.ensures
