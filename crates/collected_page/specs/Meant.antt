-- What a page comes to where a call names the page code meant: that of the page's own call. Assumes nothing.
use Rattle.std.specs.Prelude.{◌||◌, List, ℕ, eqb, Err}
use Rattle.bits.specs.Choice.{pick}
use Rattle.refusals.specs.declared.Refusal.TheVariants.{PageCode, NeededLength}
use Rattle.refusals.specs.Outcomes.{unless, next, of_page}
use Rattle.page.specs.Header.{shelf_tested, size_tested, code_tested, given_tested}
use Rattle.control_page.specs.Tests as control
use Rattle.control_page.specs.Brought as controlled
use Rattle.threshold_page_out.specs.Tests as thresholds
use Rattle.refusals.specs.Answers.{Answer, PageAnswer}

-- a code that is neither 02h nor 05h: 1, 2, 3, whatever byte 0 says
unfoldable pub other_tested : List ℕ → List ℕ → Answer
other_tested s p = next (shelf_tested s) (next (size_tested p) (Err PageCode))

-- the answer
abbrev pub meant_tested : ℕ → List ℕ → List ℕ → PageAnswer
meant_tested code s p =
    pick (eqb code 0x02) (control.control_tested s p)
    (pick (eqb code 0x05) (thresholds.thresholds_tested s p)
    (of_page (other_tested s p)))

-- and the shelf after the call
abbrev pub meant_after : ℕ → List ℕ → List ℕ → List ℕ
meant_after code s p = pick (eqb code 0x02) (controlled.after s p) (pick (eqb code 0x05) (thresholds.after s p) s)

-- the same of a page of n bytes, more than the largest has, by the first of them: 1, 3, 4, else 12
unfoldable pub meant_code : List ℕ → ℕ → Answer
meant_code p code = unless (eqb code 0x02 || eqb code 0x05) PageCode (code_tested p code)

unfoldable pub long_tested : List ℕ → List ℕ → ℕ → ℕ → Answer
long_tested s p n code = next (shelf_tested s) (next (meant_code p code) (next (given_tested p n) (Err NeededLength)))
