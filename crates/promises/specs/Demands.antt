-- What demand 2 asks over several calls, or beyond one call's promise. Assumes nothing.
use Rattle.std.specs.Prelude.{List, ℕ, Ok}
use Rattle.refusals.specs.Outcomes.{WritesPage}
use Rattle.refusals.specs.Answers.{Counted}

-- the page p stands in the output buffer again, and behind it what stood there; 11 and the buffer as it was, if it is shorter
abbrev pub WrittenAgain : List ℕ → List ℕ → Counted → List ℕ → Type 0
WrittenAgain p out w o = WritesPage (Ok tt) p out w o
