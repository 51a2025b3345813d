use Rattle.std.proofs.Common.{◌≡◌}
use Rattle.page.specs.Slots.{slot_run}
use Rattle.tool_show.proofs.place.run_of.Given as goal

abbrev pub invariant-loop-j : goal.invariant-loop-j
invariant-loop-j l = l.run ≡ slot_run l.shelf l.j
