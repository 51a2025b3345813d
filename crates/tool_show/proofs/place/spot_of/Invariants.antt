use Rattle.std.proofs.Common.{◌+◌, ◌*◌, ◌≤◌}
use Rattle.tool_show.proofs.place.spot_of.Given as goal

abbrev pub invariant-loop-descriptor : goal.invariant-loop-descriptor
invariant-loop-descriptor l = (l.start ≤ l.at) × (l.start ≤ 8 + 65539 * l.descriptor)
