-- A status page read: one refusal after the other, and what an accepted one leaves. Assumes nothing.
use Rattle.std.specs.Prelude.{Ok}
use mathlib.Core.Path.{◌≡◌, refl, ap, ◌∙◌}
use mathlib.Core.Bool.{Bool, true, false}
use mathlib.Core.List.{List, ◌++◌}
use Prim.Native.Nat.{ℕ, ◌+◌, ◌≤◌}
use native.Mathlib.Omega.{arith}
use lib.ListN.{length, get_or, drop}
use borrow.Author.Tests.{eq-eqb}
use Rattle.bits.specs.Choice.{pick}
use Rattle.bits.specs.Places.{four_at}
use Rattle.refusals.specs.Outcomes.{offence_tested, placed}
use Rattle.refusals.proofs.AcceptedTests.{held_page, held_offence}
use Rattle.shelf.specs.Limits.{most_types, most_elements}
use Rattle.shelf_formed.specs.Formed.{HasFront, configuration_formed}
use Rattle.element.specs.Status.{code_alone, entry_of}
use Rattle.element.proofs.TypeStatus.{entry_length}
use Rattle.page.specs.Slots.{slots_of, slot_at, slot_place}
use Rattle.page.specs.Header.{headed}
use Rattle.page.proofs.SlotBounds.{configuration_there, configuration_passed, slots_bound}
use Rattle.page.proofs.HeaderBothWays.{length-tested}
use Rattle.status_record.proofs.WholeRecord.{record_put}
use Rattle.shelf_status.specs.declared.PageBits.{PageBits}
use Rattle.status_record.specs.Entries.{record_with, entry_place, head_put, entries_put}
use Rattle.status_reading.specs.Read.{offence, bytes_tested, status_tested, status_read, slot_shown, bits_on, status_record}
use Rattle.refusals.specs.Answers.{PageAnswer}

-- the page's own tests
pub bytes_tested_lem : (c p : List ℕ) (n : ℕ) {k m : ℕ} {r : PageAnswer} → k ≡ offence c p n → m ≡ slot_place n → r ≡ offence_tested k m (Ok tt)
    → r ≡ bytes_tested c p n
unfolding bytes_tested
bytes_tested_lem c p n x y e = e ∙ rw (x, y)

pub parts_read : (c p : List ℕ) → configuration_formed c ≡ true → headed c p 0x02 (slots_of c) ≡ Ok tt → offence c p (slots_of c) ≡ slot_place (slots_of c)
    → status_read c p ≡ Ok tt
unfolding status_read status_tested bytes_tested
parts_read c p f h o = rw (f, h, eq-eqb (offence c p (slots_of c)) (slot_place (slots_of c)) o)

-- the entry that a slot says has sixteen bytes
pub shown_length : (c p : List ℕ) (i : ℕ) → length (slot_shown c p i) ≡ 16
unfolding slot_shown
shown_length c p i = go (slot_at c i).overall
  where
    go : (t : Bool) → length (pick t (code_alone (get_or p (slot_place i) 0)) (entry_of (slot_at c i).kind (four_at p (slot_place i)))) ≡ 16
    go true = refl
    go false = entry_length (slot_at c i).kind (four_at p (slot_place i))

-- what an accepted page says
module _ (c p : List ℕ) (a : status_read c p ≡ Ok tt) where
  pub read_parts : (configuration_formed c ≡ true) × (headed c p 0x02 (slots_of c) ≡ Ok tt) × (offence c p (slots_of c) ≡ slot_place (slots_of c))
  unfolding status_read status_tested bytes_tested
  read_parts =
      let n = slots_of c in
      let h1 = configuration_passed c (status_tested c p n) a in
      let h2 = held_page (headed c p 0x02 n) (bytes_tested c p n) h1.1 in
      (h1.0, h2.0, (held_offence (offence c p n) (slot_place n) (Ok tt) h2.1).0)

  pub read_front : HasFront c
  read_front = configuration_there c read_parts.0

  -- the bytes that are read and written for the record
  module _ {n : ℕ} (e : n ≡ slots_of c) where
    pub page_there : slot_place n ≤ length p
    page_there = omega (arith, length-tested c p 0x02 (slots_of c) read_parts.1)

    pub entries_there : (fields : List ℕ) → length fields ≡ entry_place (most_types + most_elements) → entry_place n ≤ length fields
    entries_there fields l = omega (arith, l, slots_bound c read_front.0)

-- what the reader hands over
pub record_placed : (c p r : List ℕ) {n : ℕ} {b : PageBits} {x y : List ℕ} → n ≡ slots_of c → entry_place n ≤ length r → b ≡ bits_on p → x ≡ head_put r b n
    → y ≡ entries_put (slot_shown c p) x n → y ≡ placed (status_record c p) r
unfolding status_record
record_placed c p r {n} {b} {x} {y} e l q u v =
    v
    ∙ ap (λ (o : List ℕ). entries_put (slot_shown c p) o n) (u ∙ ap (λ z. head_put r z n) q)
    ∙ record_put (slot_shown c p) (shown_length c p) (bits_on p) r n l
    ∙ ap (λ (m : ℕ). record_with (bits_on p) (slot_shown c p) m ++ drop (length (record_with (bits_on p) (slot_shown c p) m)) r) e
