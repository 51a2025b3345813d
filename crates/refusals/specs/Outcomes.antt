-- How a call comes to its answer, and what it leaves in lent memory. Assumes nothing.
use Rattle.std.specs.Prelude.{◌≡◌, Bool, true, false, List, ◌++◌, ℕ, eqb, leb, length, drop, Result, Ok, Err}
use Rattle.std.specs.Result.{result_and}
use Rattle.bits.specs.Choice.{pick}
use Rattle.refusals.specs.declared.Refusal.{Refusal}
use Rattle.refusals.specs.declared.Refusal.TheVariants.{NotAllowed, OutputTooShort}
use Rattle.refusals.specs.Answers.{Answer, PageAnswer, Counted}

-- what does not hold is refused; else the tests after it decide
abbrev pub unless : Bool → Refusal → Answer → Answer
unless t r rest = pick t rest (Err r)

-- the first refusal of two answers
abbrev pub next : Answer → Answer → Answer
next a rest = result_and a rest

-- of a page: the answer of tests that tell no offset
abbrev pub of_page : Answer → PageAnswer
of_page (Ok x) = Ok tt
of_page (Err r) = Err (record { refusal = r; offset = 0 })

-- 6, and the offset of the first offending byte
abbrev pub not_allowed_at : ℕ → PageAnswer
not_allowed_at k = Err (record { refusal = NotAllowed; offset = k })

-- 6: the search for the first offending byte of n, which ends at n if it finds none, stopped at k; then the tests after it
abbrev pub offence_tested : ℕ → ℕ → Answer → PageAnswer
offence_tested k n rest = pick (eqb k n) (of_page rest) (not_allowed_at k)

-- the tests of a page, behind those that tell no offset
abbrev pub page_next : Answer → PageAnswer → PageAnswer
page_next (Ok x) rest = rest
page_next (Err r) rest = of_page (Err r)

abbrev pub accepts : PageAnswer → Bool
accepts (Ok x) = true
accepts (Err r) = false

-- the answer of tests that also tell something, the slots or the bytes of a page; and without it
abbrev pub telling : {T : Type 0} → Answer → T → Result T Refusal
telling a x = result_and a (Ok x)

abbrev pub answer_of : {T : Type 0} → Result T Refusal → Answer
answer_of a = result_and a (Ok tt)

-- a page is written if no test refused it and the output buffer holds it
abbrev pub fitted : ℕ → ℕ → Counted
fitted n room = pick (leb n room) (Ok n) (Err OutputTooShort)

abbrev pub writes : Answer → List ℕ → List ℕ → Counted
writes (Ok x) page out = fitted (length page) (length out)
writes (Err r) page out = Err r

-- the output buffer afterwards: the page and what stood behind it, or as it was
abbrev pub out_after : Counted → List ℕ → List ℕ → List ℕ
out_after (Ok n) page out = page ++ drop n out
out_after (Err r) page out = out

-- bytes put into a place that may be longer
abbrev pub placed : List ℕ → List ℕ → List ℕ
placed told old = told ++ drop (length told) old

-- what a reader hands back; a refused read hands back nothing
abbrev pub record_after : PageAnswer → List ℕ → List ℕ → List ℕ
record_after (Ok x) told old = placed told old
record_after (Err r) told old = old

-- What is promised of a call, by what it leaves behind: r is its answer, and o the lent memory afterwards. Each settles both.

-- a page is written into the output buffer `out`, if the tests accept it and it fits
abbrev pub WritesPage : Answer → List ℕ → List ℕ → Counted → List ℕ → Type 0
WritesPage a page out r o = (r ≡ writes a page out) × (o ≡ out_after r page out)

-- a record is handed back in the place of `old`
abbrev pub HandsBack : PageAnswer → List ℕ → List ℕ → PageAnswer → List ℕ → Type 0
HandsBack a told old r o = (r ≡ a) × (o ≡ record_after r told old)

-- a shelf is changed to what it is after the call; A are the answers of calls on a page, or of others
abbrev pub Changes : {A : Type 0} → A → List ℕ → A → List ℕ → Type 0
Changes a after r o = (r ≡ a) × (o ≡ after)
