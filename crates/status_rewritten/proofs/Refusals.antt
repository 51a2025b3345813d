-- The test of one entry, and the refusals of the writer one after the other. Assumes nothing.
use Rattle.std.specs.Prelude.{Ok, Err}
use mathlib.Core.Path.{◌≡◌, ap, ◌∙◌}
use mathlib.Core.Bool.{Bool}
use mathlib.Core.List.{List}
use Prim.Native.Nat.{ℕ, ◌≤◌}
use lib.ListN.{length}
use Rattle.element.specs.StatusLayout.{fit}
use Rattle.refusals.specs.declared.Refusal.{Refusal}
use Rattle.refusals.specs.Outcomes.{next, placed}
use Rattle.refusals.proofs.Stages.{stopped, gone_on}
use Rattle.record_head.specs.Head.{count_tested}
use Rattle.shelf_formed.specs.Formed.{HasFront}
use Rattle.page.specs.declared.slots.Slot.{Slot}
use Rattle.page.specs.Slots.{slot_at, slots_of, slot_place, slots_put}
use Rattle.page.specs.Header.{head_put}
use Rattle.page.proofs.SlotBounds.{accepted_there}
use Rattle.shelf_status.specs.declared.PageBits.{PageBits}
use Rattle.shelf_status.specs.ShelfStatus.{bits_byte}
use Rattle.status_record.specs.Entries.{entry_at, bits_at}
use Rattle.status_page.specs.Page.{slot_row}
use Rattle.status_page.proofs.Refusals.{with_placed, with_length}
use Rattle.status_rewritten.specs.Rewritten.{slot_most, entry_formed, bits_tested, fields_tested, entries_tested, record_tested, page_again}
use Rattle.refusals.specs.Answers.{Answer}

-- one entry's test
pub entry_tested : (c r : List ℕ) (i : ℕ) {at : Slot} {t : Bool} → at ≡ slot_at c i → t ≡ fit (slot_most at) (entry_at r i) 16 → t ≡ entry_formed c r i
unfolding entry_formed
entry_tested c r i q h = h ∙ rw q

-- the entries of a record, stage by stage
module _ (c r : List ℕ) (n : ℕ) {a : Answer} (h : a ≡ count_tested r n) where
  abbrev behind : Answer
  behind = next (bits_tested r) (fields_tested c r n)

  pub other_count : {x : Refusal} → a ≡ Err x → a ≡ entries_tested c r n
  unfolding entries_tested
  other_count u = stopped (count_tested r n) behind h u

  module _ (u : a ≡ Ok tt) {b : Answer} (k : b ≡ bits_tested r) where
    pub other_bits : {x : Refusal} → b ≡ Err x → b ≡ entries_tested c r n
    unfolding entries_tested
    other_bits v = gone_on (count_tested r n) behind h u (stopped (bits_tested r) (fields_tested c r n) k v)

    pub fields_last : {d : Answer} → b ≡ Ok tt → d ≡ fields_tested c r n → d ≡ entries_tested c r n
    unfolding entries_tested
    fields_last v q = gone_on (count_tested r n) behind h u (gone_on (bits_tested r) (fields_tested c r n) k v q)

pub record_front : (c r : List ℕ) {a : Answer} → a ≡ record_tested c r → a ≡ Ok tt → HasFront c
unfolding record_tested
record_front c r = accepted_there c (entries_tested c r (slots_of c))

-- the page
module _ (c r : List ℕ) {n : ℕ} (e : n ≡ slots_of c) where
  pub again_length : {k : ℕ} → k ≡ slot_place n → k ≡ length (page_again c r)
  unfolding page_again
  again_length q = q ∙ with_length c (bits_at r) (entry_at r) n e

  pub again_placed : (out : List ℕ) {b : PageBits} {own : ℕ} {x y : List ℕ} → slot_place n ≤ length out → b ≡ bits_at r → own ≡ bits_byte b → x ≡ head_put c out 0x02 own n
      → y ≡ slots_put (slot_row c (entry_at r)) x n → y ≡ placed (page_again c r) out
  unfolding page_again
  again_placed out l q o u v = with_placed c (bits_at r) (entry_at r) n e out l (o ∙ ap bits_byte q) u v
