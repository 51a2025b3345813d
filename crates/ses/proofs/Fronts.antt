-- A page that is written from a front, as the call says it that tested the whole shelf or configuration. Assumes nothing.
use Rattle.std.specs.Prelude.{Ok}
use mathlib.Core.Path.{◌≡◌, sym, ◌∙◌}
use mathlib.Core.List.{List}
use Prim.Native.Nat.{ℕ}
use Rattle.refusals.specs.Outcomes.{WritesPage}
use Rattle.refusals.specs.Answers.{Answer, Counted}

pub front_written : (a : Answer) (page out : List ℕ) {r : Counted} {o : List ℕ} → a ≡ Ok tt → WritesPage (Ok tt) page out r o → WritesPage a page out r o
front_written a page out e h = (h.0 ∙ sym (rw e), h.1)
