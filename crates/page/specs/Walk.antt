-- A walk over the slots of a page that tests each. Assumes nothing.
use Rattle.std.specs.Prelude.{ℕ, zero, suc, ◌+◌, ltb, Result, Ok}
use Rattle.std.specs.Result.{result_and}
use Rattle.bits.specs.Choice.{pick}
use Rattle.refusals.specs.Answers.{PageAnswer}
use Rattle.refusals.specs.Outcomes.{not_allowed_at}
use Rattle.page.specs.Slots.{slot_place}

-- the first refusal of the tests f 0, f 1, .. below n
abbrev pub first_refusal : {E : Type 0} → (ℕ → Result (Unit {0}) E) → ℕ → Result (Unit {0}) E
first_refusal f zero = Ok tt
first_refusal f (suc n) = result_and (first_refusal f n) (f n)

-- 6: byte k of slot i is the first that is refused, 4 if none is
abbrev pub slot_tested : ℕ → ℕ → PageAnswer
slot_tested i k = pick (ltb k 4) (not_allowed_at (slot_place i + k)) (Ok tt)
