use Rattle.std.proofs.Common.{◌≡◌}
use Rattle.page.specs.Slots.{slot_carried}
use Rattle.tool_show.proofs.named.tell_entries.Given as goal

abbrev pub invariant-loop-i : goal.invariant-loop-i
invariant-loop-i g l = l.run ≡ slot_carried l.shelf l.i
