use Rattle.std.proofs.Common.{◌≡◌, ℕ, List}
use Rattle.page.specs.Slots.{slots_put, slot_carried}
use Rattle.page.specs.Calls.{GivesAt}
use Rattle.page.proofs.walk.put_rows.Given as goal

abbrev pub invariant-loop-i : goal.invariant-loop-i
invariant-loop-i g l = record {
  walked : l.run ≡ slot_carried l.configuration l.i;
  put : (f : ℕ → List ℕ) → GivesAt (goal.F-post g l.row) l.configuration l.n f → l.out ≡ slots_put f l.initial.out l.i;
}
