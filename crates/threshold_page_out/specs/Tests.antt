-- Which Threshold Out pages a shelf accepts, and what the call leaves of it. Assumes nothing.
use Rattle.std.specs.Prelude.{Bool, List, ℕ, Ok}
use Rattle.bits.specs.Choice.{pick, all_below, first_below}
use Rattle.element.specs.Types.{ordered}
use Rattle.refusals.specs.declared.Refusal.TheVariants.{ThresholdOrder}
use Rattle.refusals.specs.Outcomes.{unless, offence_tested, next, page_next, accepts}
use Rattle.shelf.specs.Types.{elements_of, kind_at}
use Rattle.page.specs.Slots.{slots_of, slot_place}
use Rattle.page.specs.Header.{page_tested}
use Rattle.threshold_rows.specs.Rows.{on_page, byte_offends, had_tested}
use Rattle.threshold_page_out.specs.Taken.{thresholds_after, taken_from, with_thresholds}
use Rattle.refusals.specs.Answers.{Answer, PageAnswer}

-- element j would keep the threshold order
unfoldable pub element_ordered : List ℕ → List ℕ → ℕ → Bool
element_ordered s p j = ordered (kind_at s j) (thresholds_after s p j)

unfoldable pub all_ordered : List ℕ → List ℕ → Bool
all_ordered s p = all_below (element_ordered s p) (elements_of s)

-- 8: some element would break the order
abbrev pub order_tested : List ℕ → List ℕ → Answer
order_tested s p = unless (all_ordered s p) ThresholdOrder (Ok tt)

-- 7: a byte of the n slots, overall or individual, that the type doesn't have; 8: the order
unfoldable pub limits_tested : List ℕ → List ℕ → ℕ → Answer
limits_tested s p n = next (had_tested s p on_page n) (order_tested s p)

-- 6: byte 1 is reserved; 7, 8: the thresholds
unfoldable pub bytes_tested : List ℕ → List ℕ → ℕ → PageAnswer
bytes_tested s p n = offence_tested (first_below (byte_offends p) (slot_place n)) (slot_place n) (limits_tested s p n)

-- 1 to 4, 12, 5: the shelf and the header; 6, 7, 8: the bytes
unfoldable pub thresholds_tested : List ℕ → List ℕ → PageAnswer
thresholds_tested s p = page_next (page_tested s p 0x05) (bytes_tested s p (slots_of s))

-- a valid Threshold Out page is one that this shelf accepts
unfoldable pub valid : List ℕ → List ℕ → Bool
valid s p = accepts (thresholds_tested s p)

-- the shelf after the call: with the thresholds of a page that it accepts, else as it was
abbrev pub after : List ℕ → List ℕ → List ℕ
after s p = pick (valid s p) (with_thresholds s (taken_from s p)) s
