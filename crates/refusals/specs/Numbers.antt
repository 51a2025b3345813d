-- The table of refusal numbers. Assumes nothing.
use Rattle.std.specs.Prelude.{ℕ, Result, Ok, Err}
use Rattle.std.specs.Result.{result_unwrap_or}
use Rattle.refusals.specs.declared.Refusal.{Refusal}
use Rattle.refusals.specs.declared.Refusal.TheVariants.{ShelfNotWellFormed, PageTooShort, PageCode, PageLength, Generation, NotAllowed, NoSuchThreshold, ThresholdOrder, WantedList, Unreachable, OutputTooShort, NeededLength, NoSuchElement}
use Rattle.refusals.specs.Answers.{PageAnswer, Counted}

abbrev pub number_of : Refusal → ℕ
number_of ShelfNotWellFormed = 1
number_of PageTooShort = 2
number_of PageCode = 3
number_of PageLength = 4
number_of Generation = 5
number_of NotAllowed = 6
number_of NoSuchThreshold = 7
number_of ThresholdOrder = 8
number_of WantedList = 9
number_of Unreachable = 10
number_of OutputTooShort = 11
number_of NeededLength = 12
number_of NoSuchElement = 15

-- whatever an accepting answer tells
abbrev pub answer_number : {T : Type 0} → Result T Refusal → ℕ
answer_number (Ok x) = 0
answer_number (Err r) = number_of r

-- the offset that a refused page leaves in the place of `old`
abbrev pub offset_after : PageAnswer → ℕ → ℕ
offset_after (Ok x) old = old
offset_after (Err r) old = r.offset

abbrev pub page_number : PageAnswer → ℕ
page_number (Ok x) = 0
page_number (Err r) = number_of r.refusal

-- where the first offending byte of a page stands, 0 unless it is refused with 6: there the page code stands, which never is
abbrev pub page_offset : PageAnswer → ℕ
page_offset a = offset_after a 0

-- a write reports the bytes written, 0 if refused
abbrev pub bytes_written : Counted → ℕ
bytes_written a = result_unwrap_or a 0
