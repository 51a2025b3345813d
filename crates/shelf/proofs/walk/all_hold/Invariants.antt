use Rattle.std.proofs.Common.{◌≡◌, ℕ, Bool, true}
use Rattle.bits.specs.Choice.{all_below}
use Rattle.shelf.specs.Types.{carried}
use Rattle.shelf.specs.Calls.{TellsEach}
use Rattle.shelf.proofs.walk.all_hold.Given as goal

abbrev pub invariant-loop-j : goal.invariant-loop-j
invariant-loop-j g l = record {
  walked : l.run ≡ carried l.shelf l.j;
  held : (f : ℕ → Bool) → TellsEach (goal.F-post g l.holds) l.shelf l.n f → all_below f l.j ≡ true;
}
