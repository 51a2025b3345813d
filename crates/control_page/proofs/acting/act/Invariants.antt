use mathlib.Core.Path.{◌≡◌}
use Prim.Native.Nat.{◌≤◌}
use Rattle.shelf.specs.Types.{carried}
use Rattle.control_page.proofs.PageActs.{partly}
use Rattle.control_page.proofs.acting.act.Given as goal

abbrev pub invariant-loop-j : goal.invariant-loop-j
invariant-loop-j l = (l.j ≤ l.n) × (l.shelf ≡ partly l.initial.shelf l.page l.j) × (l.run ≡ carried l.initial.shelf l.j)
