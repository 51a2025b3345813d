-- The status page of a well-formed shelf is accepted under the shelf's configuration, and shows what the shelf shows. Assumes nothing.
use Rattle.std.specs.Prelude.{Ok}
use mathlib.Core.Path.{◌≡◌, refl, sym, ap, ◌∙◌}
use mathlib.Core.Bool.{Bool, true, false, not}
use mathlib.Core.List.{List, [], ◌∷◌, ◌++◌}
use Prim.Native.Nat.{ℕ, ◌+◌, ◌-◌, ◌<◌, ◌≤◌}
use native.Mathlib.Omega.{arith}
use lib.ListN.{get_or}
use borrow.Author.Tests.{le-ltb}
use Rattle.bits.specs.Choice.{pick, refused_in}
use Rattle.bits.specs.Bits.{only, nibble, bit}
use Rattle.bits.specs.Places.{four_at}
use Rattle.bits.proofs.Logic.{by_case, pick_yes, pick_no, below_all, fails, four_pass}
use Rattle.bits.proofs.Halves.{nibble_bits}
use Rattle.bits.specs.Numbers.{Bytes}
use Rattle.bits.proofs.Each.{byte_small}
use Rattle.bits.proofs.Rows.{joined_same}
use Rattle.element.specs.declared.types.Kind.{Kind}
use Rattle.element.specs.declared.settings.Settings.{Settings}
use Rattle.element.specs.Types.{reading_allowed}
use Rattle.element.specs.Settings.{settings_of}
use Rattle.element.specs.Types.{verdict_of}
use Rattle.shelf.specs.Limits.{most_types, most_elements, element_place}
use Rattle.shelf.specs.Types.{kind_at}
use Rattle.shelf.specs.Elements.{settings_at, thresholds_at, reading_at, nominal_at}
use Rattle.shelf_formed.specs.Formed.{front_formed, well_formed}
use Rattle.shelf_formed.proofs.ElementTypes.{front_formed_lem}
use Rattle.shelf_formed.proofs.FormedShelf.{in_element}
use Rattle.shelf_formed.proofs.FrontOfShelf.{front, configuration_of_lem}
use Rattle.element.specs.Rules.{code_allowed}
use Rattle.element.specs.Status.{shown_by, entry_of, entry_by, status_bytes, status_offending, overall_offending, code_alone}
use Rattle.element.proofs.StoredSettings.{settings_storable}
use Rattle.element.proofs.TypeStatus.{shown_back, shown_clear}
use Rattle.page.specs.declared.slots.Slot.{Slot}
use Rattle.page.specs.Slots.{slots_of, slot_at, slot_place}
use Rattle.page.specs.Header.{headed, header}
use Rattle.page.proofs.SlotBounds.{slots_bound}
use Rattle.page.proofs.PagePut.{slot_read}
use Rattle.page.proofs.SlotsOfFront.{slots_same, slot_same, first_there, kind_first}
use Rattle.page.proofs.SameFront.{told_headed}
use Rattle.shelf_status.specs.declared.PageBits.{PageBits}
use Rattle.shelf_status.specs.ShelfStatus.{shown_at, worst, has, page_bits, bits_byte}
use Rattle.status_page.specs.Page.{slot_bytes, slot_row, page_with, status_page, shown_in}
use Rattle.status_record.specs.Entries.{record_with, head_row}
use Rattle.status_reading.specs.Read.{status_read, slot_shown, bits_on, status_record}
use Rattle.status_reading.proofs.FirstOffence.{slot_offending}
use Rattle.status_page.proofs.Refusals.{row_length}
use Rattle.status_reading.proofs.Refusals.{parts_read}
use Rattle.status_reading.proofs.Loops.{none_refused}

-- the worst code is one that may be shown
picked_allowed : (a b c d : Bool) → code_allowed (pick a 2 (pick b 3 (pick c 6 (pick d 1 0)))) ≡ true
picked_allowed true b c d = refl
picked_allowed false true c d = refl
picked_allowed false false true d = refl
picked_allowed false false false true = refl
picked_allowed false false false false = refl

worst_allowed : (s : List ℕ) (k : Kind) (first end : ℕ) → code_allowed (worst s k first end) ≡ true
unfolding worst
worst_allowed s k first end =
    let n = end - first in
    picked_allowed (has s k first n 2) (has s k first n 3) (has s k first n 6) (has s k first n 1)

-- byte 1 has its two bits and no other
own_only : (a b : Bool) → only (2 ∷ 1 ∷ []) (nibble false a b false) ≡ true
own_only true true = refl
own_only true false = refl
own_only false true = refl
own_only false false = refl

-- a code alone is not refused
overall_clear : (n : ℕ) → code_allowed n ≡ true → overall_offending (n ∷ 0 ∷ 0 ∷ 0 ∷ []) ≡ 4
unfolding overall_offending
overall_clear n e = four_pass e refl refl refl

-- the page bits are read back
bits_on_lem : (p : List ℕ) (b : PageBits) → get_or p 1 0 ≡ bits_byte b → bits_on p ≡ b
unfolding bits_on
bits_on_lem p b e =
    let q = nibble_bits false b.noncritical b.critical false in
    λ i. record { noncritical = (ap (bit 2) e ∙ q.1) i; critical = (ap (bit 1) e ∙ q.2) i }

-- the header passes its tests under the front's generation code
head_told_lem : (s : List ℕ) → slots_of s ≤ most_types + most_elements → headed (front s) (status_page s) 0x02 (slots_of s) ≡ Ok tt
unfolding status_page page_with
head_told_lem s l = told_headed (slot_row s (shown_in s)) (row_length s (shown_in s)) s 0x02 (bits_byte (page_bits s)) (omega (arith, l))

module _ (s : List ℕ) (hs : Bytes s) (w : well_formed s ≡ true) where
  f : front_formed s ≡ true
  f = front_formed_lem s w

  few : slots_of s ≤ most_types + most_elements
  few = slots_bound s f

  reading_small : (j : ℕ) → reading_at s j < 65536
  unfolding reading_at
  reading_small j = omega (arith, byte_small s hs (element_place j + 8), byte_small s hs (element_place j + 8 + 1))

  module _ (i : ℕ) (l : i < slots_of s) where
    abbrev at : Slot
    at = slot_at s i

    shows_overall : at.overall ≡ true → shown_in s i ≡ code_alone (worst s at.kind at.first at.end)
    unfolding shown_in
    shows_overall o = pick_yes _ _ _ o

    shows_element : at.overall ≡ false → shown_in s i ≡ shown_at s at.kind at.first
    unfolding shown_in
    shows_element o = pick_no _ _ _ o

    -- what an individual slot shows is not refused, and is read back
    allowed : at.overall ≡ false → reading_allowed at.kind (reading_at s at.first) ≡ true
    allowed o =
        let j = at.first in
        ap (λ (k : Kind). reading_allowed k (reading_at s j)) (sym (kind_first s f i l o)) ∙ (in_element s w j (first_there s f i l o)).3

    element_clear : at.overall ≡ false → status_offending at.kind (status_bytes at.kind (shown_in s i)) ≡ 4
    unfolding shown_at
    element_clear o =
        let k = at.kind in
        let j = at.first in
        ap (λ (x : List ℕ). status_offending k (status_bytes k x)) (shows_element o)
        ∙ shown_clear k (settings_of k (settings_at s j)) (reading_at s j) (nominal_at s j) (thresholds_at s j) (settings_storable k (settings_at s j)) (reading_small j) (allowed o)

    element_back : at.overall ≡ false → entry_of at.kind (status_bytes at.kind (shown_in s i)) ≡ shown_in s i
    unfolding shown_at
    element_back o =
        let k = at.kind in
        let j = at.first in
        ap (λ (x : List ℕ). entry_of k (status_bytes k x)) (shows_element o)
        ∙ shown_back k (settings_of k (settings_at s j)) (reading_at s j) (nominal_at s j) (thresholds_at s j) (settings_storable k (settings_at s j)) (reading_small j) (allowed o)
        ∙ sym (shows_element o)

    row_overall : at.overall ≡ true → slot_row s (shown_in s) i ≡ worst s at.kind at.first at.end ∷ 0 ∷ 0 ∷ 0 ∷ []
    unfolding slot_bytes
    row_overall o = pick_yes _ _ _ o ∙ rw (shows_overall o)

    row_element : at.overall ≡ false → slot_row s (shown_in s) i ≡ status_bytes at.kind (shown_in s i)
    unfolding slot_bytes
    row_element o = pick_no _ _ _ o

    -- the page has the slot's row where the slot stands
    on_page_lem : four_at (status_page s) (slot_place i) ≡ slot_row s (shown_in s) i
    unfolding status_page page_with
    on_page_lem = slot_read (slot_row s (shown_in s)) (row_length s (shown_in s)) s 0x02 (bits_byte (page_bits s)) (slots_of s) i l

    not_offending : slot_offending (front s) (status_page s) i ≡ 4
    unfolding slot_offending
    not_offending =
        rw (slot_same s f i l, on_page_lem)
        (by_case at.overall
        (λ o. pick_yes _ _ _ o ∙ ap overall_offending (row_overall o) ∙ alone)
        (λ o. pick_no _ _ _ o ∙ ap (status_offending at.kind) (row_element o) ∙ element_clear o))
      where
        alone : overall_offending (worst s at.kind at.first at.end ∷ 0 ∷ 0 ∷ 0 ∷ []) ≡ 4
        alone = overall_clear (worst s at.kind at.first at.end) (worst_allowed s at.kind at.first at.end)

    shown_told : slot_shown (front s) (status_page s) i ≡ shown_in s i
    unfolding slot_shown
    shown_told =
        let g : get_or (status_page s) (slot_place i) 0 ≡ get_or (slot_row s (shown_in s) i) 0 0 = ap (λ (e : List ℕ). get_or e 0 0) on_page_lem in
        rw (slot_same s f i l)
        (by_case at.overall
        (λ o. pick_yes _ _ _ o ∙ ap code_alone (g ∙ ap (λ (e : List ℕ). get_or e 0 0) (row_overall o)) ∙ sym (shows_overall o))
        (λ o. pick_no _ _ _ o ∙ ap (entry_of at.kind) (on_page_lem ∙ row_element o) ∙ element_back o))

    -- what is read of an individual slot is what its four bytes say
    pub told_entry : at.overall ≡ false → slot_shown (front s) (status_page s) i ≡ entry_of (kind_at s at.first) (four_at (status_page s) (slot_place i))
    unfolding slot_shown
    told_entry o = rw (slot_same s f i l, kind_first s f i l o) (pick_no _ _ _ o)

    -- what an individual element shows follows from what the shelf stores of it, the verdict as the definition gives it
    pub told_verdict : at.overall ≡ false
        → let j : ℕ = at.first in
        let k : Kind = kind_at s j in
        let e : Settings = settings_of k (settings_at s j) in
        slot_shown (front s) (status_page s) i ≡ entry_by k e (verdict_of k e (reading_at s j) (nominal_at s j) (thresholds_at s j)) (reading_at s j)
    unfolding shown_at shown_by
    told_verdict o = rw (kind_first s f i l o) (shown_told ∙ shows_element o)

  own : get_or (status_page s) 1 0 ≡ bits_byte (page_bits s)
  unfolding status_page page_with header
  own = refl

  none : (i : ℕ) → i < slots_of s → fails (refused_in (slot_offending (front s) (status_page s))) i ≡ true
  none i l = ap not (le-ltb (slot_offending (front s) (status_page s) i) 4 (omega (arith, not_offending i l)))

  -- it is accepted
  pub told_read : status_read (front s) (status_page s) ≡ Ok tt
  told_read =
      let n = slots_of s in
      let o = none_refused (front s) (status_page s) n (ap (only (2 ∷ 1 ∷ [])) own ∙ own_only (page_bits s).noncritical (page_bits s).critical)
      (below_all (fails (refused_in (slot_offending (front s) (status_page s)))) n none) refl in
      parts_read (front s) (status_page s) (configuration_of_lem s w) (rw (slots_same s) head) (rw (slots_same s) (sym o))
    where
      head : headed (front s) (status_page s) 0x02 (slots_of s) ≡ Ok tt
      head = head_told_lem s few

  -- and hands back what the shelf shows
  pub told_record : status_record (front s) (status_page s) ≡ record_with (page_bits s) (shown_in s) (slots_of s)
  unfolding status_record
  told_record =
      let n = slots_of s in
      rw (slots_same s, bits_told)
      (ap (λ (o : List ℕ). head_row (page_bits s) n ++ o)
      (joined_same (slot_shown (front s) (status_page s)) (shown_in s) n shown_told))
    where
      bits_told : bits_on (status_page s) ≡ page_bits s
      bits_told = bits_on_lem (status_page s) (page_bits s) own
