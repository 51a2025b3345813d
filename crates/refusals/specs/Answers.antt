-- What calls answer: what they have to tell, nothing or a count, or else why they refuse. Assumes nothing.
use Rattle.std.specs.Prelude.{ℕ, Result}
use Rattle.refusals.specs.declared.Refusal.{Refusal}
use Rattle.refusals.specs.declared.PageRefusal.{PageRefusal}

abbrev pub Answer : Type 0
Answer = Result (Unit {0}) Refusal

-- of a call that takes a page
abbrev pub PageAnswer : Type 0
PageAnswer = Result (Unit {0}) PageRefusal

-- of tests that count the slots on the way, and of a call that writes
abbrev pub Counted : Type 0
Counted = Result ℕ Refusal
