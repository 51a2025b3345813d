-- The Threshold In page read: which pages are refused, and the record of the others. Assumes nothing.
use Rattle.std.specs.Prelude.{List, ◌++◌, ℕ, ◌*◌}
use Rattle.bits.specs.Choice.{first_below}
use Rattle.bits.specs.Rows.{bytes_at}
use Rattle.refusals.specs.Outcomes.{offence_tested, page_next}
use Rattle.record_head.specs.Head.{record_head}
use Rattle.page.specs.Slots.{slots_of, slot_place}
use Rattle.page.specs.Header.{configuration_tested, headed}
use Rattle.threshold_rows.specs.Rows.{on_page, offends, limits_tested}
use Rattle.refusals.specs.Answers.{PageAnswer}

-- 6: byte 1 is not zero, or a byte of an overall slot; 7, 8: the slots
unfoldable pub bytes_tested : List ℕ → List ℕ → ℕ → PageAnswer
bytes_tested c p n = offence_tested (first_below (offends c p) (slot_place n)) (slot_place n) (limits_tested c p on_page n)

-- 2 to 4, 12, 5: the header of a page of n slots; 6, 7, 8: its bytes
unfoldable pub threshold_tested : List ℕ → List ℕ → ℕ → PageAnswer
threshold_tested c p n = page_next (headed c p 0x05 n) (bytes_tested c p n)

-- 1: no configuration; 2 to 4, 12, 5 to 8: the page
unfoldable pub threshold_read : List ℕ → List ℕ → PageAnswer
threshold_read c p = page_next (configuration_tested c) (threshold_tested c p (slots_of c))

-- the head has nothing of its own, and the entries are the slots as they are
unfoldable pub threshold_record : List ℕ → List ℕ → List ℕ
threshold_record c p = record_head 0 0 (slots_of c) ++ bytes_at p on_page (4 * slots_of c)
