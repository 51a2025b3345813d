-- The Threshold In page of a well-formed shelf is accepted under the shelf's configuration, and hands back the shelf's thresholds. Assumes nothing.
use Rattle.std.specs.Prelude.{Ok}
use mathlib.Core.Path.{◌≡◌, refl, sym, ap, ◌∙◌}
use mathlib.Core.Bool.{true, false}
use mathlib.Core.List.{List, [], ◌∷◌, ◌++◌}
use Prim.Native.Nat.{ℕ, ◌+◌, ◌*◌, ◌<◌, ◌≤◌}
use native.Mathlib.Omega.{arith}
use lib.Dec.{ltb}
use lib.ListN.{get_or, take}
use lib.Seq.{drop_at, take_all}
use Rattle.bits.specs.Choice.{pick}
use Rattle.bits.specs.Rows.{joined, bytes_at}
use Rattle.bits.proofs.Logic.{by_case, pick_yes, pick_no}
use Rattle.bits.proofs.Rows.{length-joined, bytes_there}
use Rattle.element.specs.declared.types.Kind.{Kind}
use Rattle.element.specs.Types.{had, ordered}
use Rattle.element.proofs.TypeThresholds.{zeros_had, zeros_ordered}
use Rattle.record_head.specs.Head.{record_head}
use Rattle.shelf.specs.Limits.{most_types, most_elements}
use Rattle.shelf.specs.Elements.{thresholds_at}
use Rattle.shelf_formed.specs.Formed.{front_formed, well_formed}
use Rattle.shelf_formed.proofs.ElementTypes.{front_formed_lem}
use Rattle.shelf_formed.proofs.FormedShelf.{in_element}
use Rattle.shelf_formed.proofs.FrontOfShelf.{front, configuration_of_lem}
use Rattle.page.specs.declared.slots.Slot.{Slot}
use Rattle.page.specs.Slots.{slots_of, slot_at}
use Rattle.page.specs.Header.{headed, header}
use Rattle.page.proofs.SlotBounds.{slots_bound}
use Rattle.page.proofs.PagePut.{slot_read, length-header, length-page}
use Rattle.page.proofs.SlotsOfFront.{slots_same, slot_same, first_there, kind_first}
use Rattle.page.proofs.SameFront.{told_headed}
use Rattle.threshold_rows.specs.Rows.{on_page, row_at, first_set, row_offending, row_had, row_ordered}
use Rattle.threshold_page_in.specs.Page.{threshold_row, threshold_page}
use Rattle.threshold_record.specs.Read.{threshold_read, threshold_record}
use Rattle.threshold_page_in.proofs.Refusals.{row_length}
use Rattle.threshold_record.proofs.Refusals.{parts_read}
use Rattle.threshold_rows.proofs.RowTests.{Fine, fine_rows}

abbrev four_zeros : List ℕ
four_zeros = 0 ∷ 0 ∷ 0 ∷ 0 ∷ []

-- four zeros are not set
zeros_clear : first_set four_zeros ≡ 4
unfolding first_set
zeros_clear = refl

module _ (s : List ℕ) (w : well_formed s ≡ true) where
  f : front_formed s ≡ true
  f = front_formed_lem s w

  few : slots_of s ≤ most_types + most_elements
  few = slots_bound s f

  -- the header passes its tests under the front's generation code
  head_told_lem : headed (front s) (threshold_page s) 0x05 (slots_of s) ≡ Ok tt
  unfolding threshold_page
  head_told_lem = told_headed (threshold_row s) (row_length s) s 0x05 0 (omega (arith, few))

  own : get_or (threshold_page s) 1 0 ≡ 0
  unfolding threshold_page header
  own = refl

  module _ (i : ℕ) (l : i < slots_of s) where
    abbrev at : Slot
    at = slot_at s i

    row_overall : at.overall ≡ true → threshold_row s i ≡ four_zeros
    unfolding threshold_row
    row_overall o = pick_yes _ _ _ o

    row_element : at.overall ≡ false → threshold_row s i ≡ thresholds_at s at.first
    unfolding threshold_row
    row_element o = pick_no _ _ _ o

    row_had_lem : had at.kind (threshold_row s i) ≡ true
    row_had_lem =
        by_case at.overall
        (λ o. ap (had at.kind) (row_overall o) ∙ zeros_had at.kind)
        (λ o. ap (had at.kind) (row_element o) ∙ ap (λ (k : Kind). had k (thresholds_at s at.first)) (sym (kind_first s f i l o))
        ∙ (in_element s w at.first (first_there s f i l o)).1)

    row_ordered_lem : ordered at.kind (threshold_row s i) ≡ true
    row_ordered_lem =
        by_case at.overall
        (λ o. ap (ordered at.kind) (row_overall o) ∙ zeros_ordered at.kind)
        (λ o. ap (ordered at.kind) (row_element o) ∙ ap (λ (k : Kind). ordered k (thresholds_at s at.first)) (sym (kind_first s f i l o))
        ∙ (in_element s w at.first (first_there s f i l o)).2)

    row_clear : pick at.overall (first_set (threshold_row s i)) 4 ≡ 4
    row_clear =
        by_case at.overall
        (λ o. pick_yes _ _ _ o ∙ ap first_set (row_overall o) ∙ zeros_clear)
        (λ o. pick_no _ _ _ o)

    -- the page has the slot's row where the slot stands
    on_page_lem : row_at (threshold_page s) on_page i ≡ threshold_row s i
    unfolding threshold_page
    on_page_lem = slot_read (threshold_row s) (row_length s) s 0x05 0 (slots_of s) i l

    fine : Fine (front s) (threshold_page s) on_page i
    unfolding row_offending row_had row_ordered
    fine =
        let e = slot_same s f i l in (
          ap (λ (z : Slot). ltb (pick z.overall (first_set (row_at (threshold_page s) on_page i)) 4) 4) e
              ∙ ap (λ (x : List ℕ). ltb (pick at.overall (first_set x) 4) 4) on_page_lem
              ∙ ap (λ (n : ℕ). ltb n 4) row_clear,
          ap (λ (z : Slot). had z.kind (row_at (threshold_page s) on_page i)) e ∙ ap (had at.kind) on_page_lem ∙ row_had_lem,
          ap (λ (z : Slot). ordered z.kind (row_at (threshold_page s) on_page i)) e ∙ ap (ordered at.kind) on_page_lem ∙ row_ordered_lem,
        )

  -- it is accepted
  pub told_read : threshold_read (front s) (threshold_page s) ≡ Ok tt
  told_read =
      parts_read (front s) (threshold_page s) (configuration_of_lem s w) (rw (slots_same s) head_told_lem) own
      (rw (slots_same s) (fine_rows (front s) (threshold_page s) on_page (slots_of s) fine))

  slots_told : bytes_at (threshold_page s) on_page (4 * slots_of s) ≡ joined (threshold_row s) (slots_of s)
  unfolding threshold_page
  slots_told =
      let n = slots_of s in
      let h = header s 0x05 0 n in
      let g = joined (threshold_row s) n in
      let e = length-page (threshold_row s) (row_length s) s 0x05 0 n in
      bytes_there (h ++ g) on_page (4 * n) (omega (arith, e))
      ∙ ap (take (4 * n)) (drop_at h g 8 (length-header s 0x05 0 n))
      ∙ take_all (4 * n) g (omega (arith, length-joined (threshold_row s) 4 (row_length s) n))

  -- and hands back what the shelf has stored
  pub told_record : threshold_record (front s) (threshold_page s) ≡ record_head 0 0 (slots_of s) ++ joined (threshold_row s) (slots_of s)
  unfolding threshold_record
  told_record = rw (slots_same s, slots_told)
