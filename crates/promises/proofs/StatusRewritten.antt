-- A status page that was accepted is written again as the same bytes. Assumes nothing.
use Rattle.std.specs.Prelude.{Ok}
use mathlib.Core.Path.{◌≡◌, refl, sym, ap, ap₂, ◌∙◌}
use mathlib.Core.Bool.{Bool, true, false}
use mathlib.Core.List.{List, [], ◌∷◌, ◌++◌}
use Prim.Native.Nat.{ℕ, ◌+◌, ◌*◌, ◌<◌, ◌≤◌}
use native.Mathlib.Omega.{arith}
use lib.Dec.{eqb}
use lib.ListN.{get_or}
use lib.Seq.{take_all}
use borrow.Author.Tests.{eqb-true, ltb-false}
use Rattle.bits.specs.Choice.{pick}
use Rattle.bits.specs.Bits.{bit, only, nibble}
use Rattle.bits.specs.Places.{four_at}
use Rattle.bits.proofs.Each.{byte_small}
use Rattle.bits.proofs.Offence.{first_fine, row_fine}
use Rattle.bits.proofs.Logic.{pick_yes, pick_no, below_all, by_case, all_four}
use Rattle.bits.proofs.Halves.{again_byte}
use Rattle.bits.specs.Numbers.{Bytes}
use Rattle.bits.specs.Rows.{joined}
use Rattle.bits.proofs.Rows.{joined_same, fours}
use Rattle.record_head.specs.Head.{count_tested}
use Rattle.record_head.proofs.Counted.{count_back}
use Rattle.shelf.specs.Limits.{most_types, most_elements}
use Rattle.shelf_formed.specs.Formed.{configuration_formed}
use Rattle.element.specs.StatusLayout.{fit}
use Rattle.element.specs.Rules.{code_allowed}
use Rattle.element.specs.Status.{entry_of, status_bytes, status_offending, overall_offending, code_alone}
use Rattle.element.proofs.TypeStatus.{offence_small, overall_small, status_again, entry_fit, alone_fit}
use Rattle.page.specs.declared.slots.Slot.{Slot}
use Rattle.page.specs.Slots.{slots_of, slot_at, slot_place}
use Rattle.page.specs.Header.{headed}
use Rattle.page.proofs.SlotBounds.{configuration_front, slots_bound}
use Rattle.page.proofs.HeaderBothWays.{length-tested, header_again}
use Rattle.shelf_status.specs.ShelfStatus.{bits_byte}
use Rattle.status_page.specs.Page.{slot_bytes, slot_row, page_with}
use Rattle.status_record.specs.Entries.{entry_at, bits_at}
use Rattle.status_reading.proofs.Refusals.{read_parts, shown_length}
use Rattle.status_reading.specs.Read.{first_allows, offence, status_read, slot_shown, bits_on, status_record}
use Rattle.status_reading.proofs.FirstOffence.{slot_offending, found}
use Rattle.status_rewritten.specs.Rewritten.{slot_most, entry_formed, entries_formed, entries_tested, record_tested, page_again}
use Rattle.status_record.proofs.WholeRecord.{bits_back, bits_fine, entry_back}

slot_small : (c p : List ℕ) (i : ℕ) → slot_offending c p i ≤ 4
unfolding slot_offending
slot_small c p i = go (slot_at c i).overall
  where
    go : (t : Bool) → pick t (overall_offending (four_at p (slot_place i))) (status_offending (slot_at c i).kind (four_at p (slot_place i))) ≤ 4
    go true = overall_small (four_at p (slot_place i))
    go false = offence_small (slot_at c i).kind (four_at p (slot_place i))

-- a page without a refused byte
module _ (c p : List ℕ) (n : ℕ) (h : offence c p n ≡ slot_place n) where
  pub own_fine : only (2 ∷ 1 ∷ []) (get_or p 1 0) ≡ true
  own_fine = first_fine slot_place (slot_offending c p) n (first_allows p) (λ e. omega (arith, e)) (found c p n ∙ h)

  pub slot_fine : (i : ℕ) → i < n → slot_offending c p i ≡ 4
  slot_fine i l =
      let e = row_fine slot_place (slot_offending c p) n (λ j m. omega arith) (sym (pick_yes _ _ _ own_fine) ∙ found c p n ∙ h) i l in
      omega (arith, ltb-false (slot_offending c p i) 4 e, slot_small c p i)

-- one slot of an accepted page: what it shows can be shown, and is shown by the same bytes
module _ (c p : List ℕ) (hp : Bytes p) (i : ℕ) (h : slot_offending c p i ≡ 4) where
  abbrev at : Slot
  at = slot_at c i

  abbrev k : ℕ
  k = slot_place i

  small : (m : ℕ) → get_or p m 0 < 256
  small = byte_small p hp

  overall_fine : at.overall ≡ true
      → (code_allowed (get_or p k 0) ≡ true) × (eqb (get_or p (k + 1) 0) 0 ≡ true) × (eqb (get_or p (k + 2) 0) 0 ≡ true) × (eqb (get_or p (k + 3) 0) 0 ≡ true)
  unfolding slot_offending overall_offending
  overall_fine o =
      all_four (code_allowed (get_or p k 0)) (eqb (get_or p (k + 1) 0) 0) (eqb (get_or p (k + 2) 0) 0) (eqb (get_or p (k + 3) 0) 0)
      (sym (pick_yes _ _ _ o) ∙ h)

  element_fine : at.overall ≡ false → status_offending at.kind (four_at p k) ≡ 4
  unfolding slot_offending
  element_fine o = sym (pick_no _ _ _ o) ∙ h

  shown_overall : at.overall ≡ true → slot_shown c p i ≡ code_alone (get_or p k 0)
  unfolding slot_shown
  shown_overall o = pick_yes _ _ _ o

  shown_element : at.overall ≡ false → slot_shown c p i ≡ entry_of at.kind (four_at p k)
  unfolding slot_shown
  shown_element o = pick_no _ _ _ o

  row_overall : at.overall ≡ true → slot_bytes at (slot_shown c p i) ≡ four_at p k
  unfolding slot_bytes
  row_overall o =
      let q = overall_fine o in
      pick_yes _ _ _ o
      ∙ rw (shown_overall o, eqb-true (get_or p (k + 1) 0) 0 q.1, eqb-true (get_or p (k + 2) 0) 0 q.2, eqb-true (get_or p (k + 3) 0) 0 q.3)

  row_element : at.overall ≡ false → slot_bytes at (slot_shown c p i) ≡ four_at p k
  unfolding slot_bytes
  row_element o =
      pick_no _ _ _ o
      ∙ ap (status_bytes at.kind) (shown_element o)
      ∙ status_again at.kind (get_or p k 0) (get_or p (k + 1) 0) (get_or p (k + 2) 0) (get_or p (k + 3) 0) (element_fine o) (small k) (small (k + 1)) (small (k + 2))
      (small (k + 3))

  pub row_again : slot_bytes at (slot_shown c p i) ≡ four_at p k
  row_again = by_case at.overall row_overall row_element

  pub shown_fine : fit (slot_most at) (slot_shown c p i) 16 ≡ true
  shown_fine =
      by_case at.overall
      (λ o. rw (o, shown_overall o) (alone_fit (get_or p k 0) (overall_fine o).0))
      (λ o. rw (o, shown_element o) (entry_fit at.kind (get_or p k 0) (get_or p (k + 1) 0) (get_or p (k + 2) 0) (get_or p (k + 3) 0) (element_fine o)))

-- byte 1 again
own_again : (b : ℕ) → b < 256 → only (2 ∷ 1 ∷ []) b ≡ true → nibble false (bit 2 b) (bit 1 b) false ≡ b
own_again = again_byte (2 ∷ 1 ∷ []) (λ b. nibble false (bit 2 b) (bit 1 b) false) refl

-- writing again what an accepted reading gave, whatever stands behind it
module _ (c p rest : List ℕ) (hc : Bytes c) (hp : Bytes p) (a : status_read c p ≡ Ok tt) where
  passed : (configuration_formed c ≡ true) × (headed c p 0x02 (slots_of c) ≡ Ok tt) × (offence c p (slots_of c) ≡ slot_place (slots_of c))
  passed = read_parts c p a

  no_offence : offence c p (slots_of c) ≡ slot_place (slots_of c)
  no_offence = passed.2

  few : slots_of c ≤ most_types + most_elements
  few = slots_bound c (configuration_front c passed.0)

  abbrev record_told : List ℕ
  record_told = status_record c p ++ rest

  fine : (i : ℕ) → i < slots_of c → slot_offending c p i ≡ 4
  fine i l = slot_fine c p (slots_of c) no_offence i l

  entry_told : (i : ℕ) → i < slots_of c → entry_at record_told i ≡ slot_shown c p i
  unfolding status_record
  entry_told i l = entry_back (bits_on p) (slot_shown c p) (shown_length c p) (slots_of c) rest i l

  entry_fine : (i : ℕ) → i < slots_of c → entry_formed c record_told i ≡ true
  unfolding entry_formed
  entry_fine i l = ap (λ (x : List ℕ). fit (slot_most (slot_at c i)) x 16) (entry_told i l) ∙ shown_fine c p hp i (fine i l)

  pub tested_again : record_tested c record_told ≡ Ok tt
  unfolding record_tested entries_tested entries_formed status_record
  tested_again =
      let n : count_tested record_told (slots_of c) ≡ (Ok tt) = count_back _ _ (slots_of c) (joined (slot_shown c p) (slots_of c) ++ rest) (omega (arith, few)) in
      rw (
        passed.0,
        n,
        bits_fine (bits_on p) (slot_shown c p) (shown_length c p) (slots_of c) rest,
        below_all (entry_formed c record_told) (slots_of c) entry_fine,
      )

  bits_told : bits_byte (bits_at record_told) ≡ get_or p 1 0
  unfolding status_record bits_on
  bits_told =
      ap bits_byte (bits_back (bits_on p) (slot_shown c p) (shown_length c p) (slots_of c) rest)
      ∙ own_again (get_or p 1 0) (byte_small p hp 1) (own_fine c p (slots_of c) no_offence)

  pub page_again_lem : page_again c record_told ≡ p
  unfolding page_again page_with
  page_again_lem =
      let n = slots_of c in
      let e = length-tested c p 0x02 n passed.1 in
      ap₂ ◌++◌ (header_again c p 0x02 n passed.1 (bits_byte (bits_at record_told)) hc hp bits_told)
      (joined_same (slot_row c (entry_at record_told)) (λ i. four_at p (8 + 4 * i)) n
      (λ i l. ap (slot_bytes (slot_at c i)) (entry_told i l) ∙ row_again c p hp i (fine i l)))
      ∙ sym (fours p 8 n (omega (arith, e)))
      ∙ take_all (8 + 4 * n) p (omega (arith, e))
