-- What every record starts with: two bytes of its own, and the number of its entries. Assumes nothing.
use Rattle.std.specs.Prelude.{List, ◌∷◌, ℕ, eqb, Ok}
use Rattle.bits.specs.Numbers.{big, bytes}
use Rattle.bits.specs.Places.{two_at}
use Rattle.refusals.specs.declared.Refusal.TheVariants.{WantedList}
use Rattle.refusals.specs.Outcomes.{unless}
use Rattle.refusals.specs.Answers.{Answer}

abbrev pub record_head : ℕ → ℕ → ℕ → List ℕ
record_head first second n = first ∷ second ∷ bytes 2 n

abbrev pub entries_in : List ℕ → ℕ
entries_in r = big (two_at r 2)

-- 9: another number of entries than n
unfoldable pub count_tested : List ℕ → ℕ → Answer
count_tested r n = unless (eqb (entries_in r) n) WantedList (Ok tt)
