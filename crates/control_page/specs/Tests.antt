-- Which control pages a shelf accepts. Assumes nothing.
use Rattle.std.specs.Prelude.{Bool, List, [], ◌∷◌, ℕ, get_or, Ok}
use Rattle.bits.specs.Choice.{first_below}
use Rattle.bits.specs.Bits.{only}
use Rattle.bits.specs.Places.{four_at}
use Rattle.element_control.specs.Control.{allows}
use Rattle.refusals.specs.Outcomes.{offence_tested, page_next, accepts}
use Rattle.page.specs.Slots.{slots_of, slot_at, slot_place}
use Rattle.page.specs.Offends.{offends_on}
use Rattle.page.specs.Header.{page_tested}
use Rattle.refusals.specs.Answers.{PageAnswer}

-- in byte 1 bits 7 to 4 are tested, and bits 3 to 0 ignored
abbrev pub first_allows : List ℕ → Bool
first_allows p = only (3 ∷ 2 ∷ 1 ∷ 0 ∷ []) (get_or p 1 0)

-- byte j of slot i is allowed; overall and individual elements of a type are tested alike
abbrev pub slot_allows : List ℕ → List ℕ → ℕ → ℕ → Bool
slot_allows s p i j = allows (slot_at s i).kind (four_at p (slot_place i)) j

-- the byte at k is not
unfoldable pub offends : List ℕ → List ℕ → ℕ → Bool
offends s p k = offends_on (first_allows p) (slot_allows s p) k

-- where the first byte in page order stands that offends, or where the page of n slots ends
unfoldable pub offence : List ℕ → List ℕ → ℕ → ℕ
offence s p n = first_below (offends s p) (slot_place n)

-- 6: a byte of a page with n slots is refused, and the first is told
unfoldable pub bytes_tested : List ℕ → List ℕ → ℕ → PageAnswer
bytes_tested s p n = offence_tested (offence s p n) (slot_place n) (Ok tt)

-- 1 to 4, 12, 5: the shelf and the header; 6: the bytes
unfoldable pub control_tested : List ℕ → List ℕ → PageAnswer
control_tested s p = page_next (page_tested s p 0x02) (bytes_tested s p (slots_of s))

-- a valid control page is one that this shelf accepts
unfoldable pub valid : List ℕ → List ℕ → Bool
valid s p = accepts (control_tested s p)
