use Rattle.std.proofs.Common.{◌≡◌, ℕ, Result, Ok}
use Rattle.page.specs.Slots.{slot_carried}
use Rattle.page.specs.Calls.{GivesAt}
use Rattle.page.specs.Walk.{first_refusal}
use Rattle.page.proofs.walk.test_slots.Given as goal

abbrev pub invariant-loop-i : goal.invariant-loop-i
invariant-loop-i g l = record {
  walked : l.run ≡ slot_carried l.configuration l.i;
  passed : (f : ℕ → Result (Unit {0}) _) → GivesAt (goal.F-post g l.test) l.configuration l.n f → first_refusal f l.i ≡ Ok tt;
}
