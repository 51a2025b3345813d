use mathlib.Core.Path.{◌≡◌}
use mathlib.Core.Bool.{true}
use Rattle.bits.specs.Choice.{all_below}
use Rattle.bits.specs.Texts.{unprintable}
use Rattle.bits.proofs.Logic.{fails}
use Rattle.bits.proofs.printable_run.Given as goal

abbrev pub invariant-loop-i : goal.invariant-loop-i
invariant-loop-i l = all_below (fails (unprintable l.s l.k)) l.i ≡ true
