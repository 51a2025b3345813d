-- The status page written again from a record r. Assumes nothing.
use Rattle.std.specs.Prelude.{Bool, List, ℕ, Ok}
use Rattle.bits.specs.Choice.{pick, all_below}
use Rattle.refusals.specs.declared.Refusal.TheVariants.{NotAllowed}
use Rattle.refusals.specs.Outcomes.{unless, next}
use Rattle.record_head.specs.Head.{count_tested}
use Rattle.element.specs.StatusLayout.{fit}
use Rattle.element.specs.Status.{most_shown, most_overall}
use Rattle.page.specs.declared.slots.Slot.{Slot}
use Rattle.page.specs.Slots.{slots_of, slot_at}
use Rattle.page.specs.Header.{configuration_tested}
use Rattle.status_page.specs.Page.{page_with}
use Rattle.status_record.specs.Entries.{entry_at, bits_at, bits_formed}
use Rattle.refusals.specs.Answers.{Answer}

-- no field is out of range, or set where the slot shows none
abbrev pub slot_most : Slot → List ℕ
slot_most at = pick at.overall most_overall (most_shown at.kind)

unfoldable pub entry_formed : List ℕ → List ℕ → ℕ → Bool
entry_formed c r i = fit (slot_most (slot_at c i)) (entry_at r i) 16

unfoldable pub entries_formed : List ℕ → List ℕ → ℕ → Bool
entries_formed c r n = all_below (entry_formed c r) n

-- 6: a page bit that is neither 0 nor 1
abbrev pub bits_tested : List ℕ → Answer
bits_tested r = unless (bits_formed r) NotAllowed (Ok tt)

-- 6: a field of the first n entries
abbrev pub fields_tested : List ℕ → List ℕ → ℕ → Answer
fields_tested c r n = unless (entries_formed c r n) NotAllowed (Ok tt)

-- 9: the number of entries; 6: the page bits, the fields
unfoldable pub entries_tested : List ℕ → List ℕ → ℕ → Answer
entries_tested c r n = next (count_tested r n) (next (bits_tested r) (fields_tested c r n))

-- 1: no configuration; 9, 6: the entries
unfoldable pub record_tested : List ℕ → List ℕ → Answer
record_tested c r = next (configuration_tested c) (entries_tested c r (slots_of c))

unfoldable pub page_again : List ℕ → List ℕ → List ℕ
page_again c r = page_with c (bits_at r) (entry_at r)
