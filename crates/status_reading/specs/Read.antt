-- The status page read: which pages are refused, and what the others show. Assumes nothing.
use Rattle.std.specs.Prelude.{Bool, List, [], ◌∷◌, ℕ, get_or, Ok}
use Rattle.bits.specs.Choice.{pick, first_below}
use Rattle.bits.specs.Bits.{bit, only}
use Rattle.bits.specs.Places.{four_at}
use Rattle.refusals.specs.Outcomes.{offence_tested, page_next}
use Rattle.element.specs.Types.{rules_of}
use Rattle.element.specs.Status.{overall_allows, code_alone, entry_of}
use Rattle.page.specs.declared.slots.Slot.{Slot}
use Rattle.page.specs.Slots.{slots_of, slot_at, slot_place}
use Rattle.page.specs.Offends.{offends_on}
use Rattle.page.specs.Header.{configuration_tested, headed}
use Rattle.shelf_status.specs.declared.PageBits.{PageBits}
use Rattle.status_record.specs.Entries.{record_with}
use Rattle.refusals.specs.Answers.{PageAnswer}

-- byte 1 may have NON-CRIT and CRIT, bits 2 and 1, and no other
abbrev pub first_allows : List ℕ → Bool
first_allows p = only (2 ∷ 1 ∷ []) (get_or p 1 0)

-- byte j of slot i is allowed
abbrev pub slot_allows : List ℕ → List ℕ → ℕ → ℕ → Bool
slot_allows c p i j =
    let at : Slot = slot_at c i in
    pick at.overall (overall_allows (four_at p (slot_place i)) j) ((rules_of at.kind).status_allows (four_at p (slot_place i)) j)

-- the byte at k is not
unfoldable pub offends : List ℕ → List ℕ → ℕ → Bool
offends c p k = offends_on (first_allows p) (slot_allows c p) k

-- where the first byte in page order stands that offends, or where the page of n slots ends
unfoldable pub offence : List ℕ → List ℕ → ℕ → ℕ
offence c p n = first_below (offends c p) (slot_place n)

-- 6: a byte of the page is refused, and the first is told
unfoldable pub bytes_tested : List ℕ → List ℕ → ℕ → PageAnswer
bytes_tested c p n = offence_tested (offence c p n) (slot_place n) (Ok tt)

-- 2 to 4, 12, 5: the header of a page of n slots; 6: its bytes
unfoldable pub status_tested : List ℕ → List ℕ → ℕ → PageAnswer
status_tested c p n = page_next (headed c p 0x02 n) (bytes_tested c p n)

-- 1: no configuration; 2 to 4, 12, 5, 6: the page
unfoldable pub status_read : List ℕ → List ℕ → PageAnswer
status_read c p = page_next (configuration_tested c) (status_tested c p (slots_of c))

-- the entry that slot i says
unfoldable pub slot_shown : List ℕ → List ℕ → ℕ → List ℕ
slot_shown c p i =
    let at : Slot = slot_at c i in
    pick at.overall (code_alone (get_or p (slot_place i) 0)) (entry_of at.kind (four_at p (slot_place i)))

unfoldable pub bits_on : List ℕ → PageBits
bits_on p = record { noncritical = bit 2 (get_or p 1 0); critical = bit 1 (get_or p 1 0) }

-- the record of shown fields
unfoldable pub status_record : List ℕ → List ℕ → List ℕ
status_record c p = record_with (bits_on p) (slot_shown c p) (slots_of c)
