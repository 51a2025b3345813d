use Rattle.std.proofs.Common.{◌≡◌}
use Rattle.shelf.specs.Types.{carried}
use Rattle.tool_show.proofs.Formed.show_elements.Given as goal

abbrev pub invariant-loop-j : goal.invariant-loop-j
invariant-loop-j g l = l.run ≡ carried l.self.block.now l.j
