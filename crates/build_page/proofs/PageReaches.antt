-- The page that is made is valid and reaches the wish; where a SWAP is wanted that is not stored, none does. Assumes nothing.
use Rattle.std.specs.Prelude.{Ok}
use mathlib.Core.Path.{◌≡◌, refl, sym, ap, ◌∙◌}
use mathlib.Core.Bool.{true, false}
use mathlib.Core.List.{List}
use Prim.Native.Nat.{ℕ, ◌+◌, ◌*◌, ◌-◌, ◌<◌}
use native.Mathlib.Omega.{arith}
use lib.ListN.{length}
use borrow.Author.Tests.{le-ltb}
use Rattle.bits.specs.Numbers.{Bytes}
use Rattle.bits.specs.Places.{four_at}
use Rattle.bits.proofs.Each.{four_small}
use Rattle.bits.proofs.Logic.{never}
use Rattle.bits.proofs.Rows.{joined_same}
use Rattle.element.specs.Settings.{settings_of, settings_formed}
use Rattle.element_control.specs.Control.{control_of, offending}
use Rattle.element_control.proofs.Acting.{swap_kept_lem}
use Rattle.build_element.specs.Wishes.{one}
use Rattle.build_element.proofs.FirstElement.{one_reaches}
use Rattle.shelf.specs.Types.{types_of, type_count, before, elements_of, type_of, kind_at}
use Rattle.shelf.specs.Elements.{settings_at}
use Rattle.shelf.specs.SettingsList.{settings_in}
use Rattle.shelf.proofs.ElementsBefore.{before_next}
use Rattle.shelf.proofs.SettingsList.{settings_length, list_joined}
use Rattle.shelf_formed.specs.Formed.{front_formed, well_formed}
use Rattle.shelf_formed.proofs.ElementTypes.{type_start, type_end, type_named, front_formed_lem}
use Rattle.page.specs.Slots.{slots_of, slot_at, slot_place}
use Rattle.page.specs.Places.{own_slot, overall_slot, places_of}
use Rattle.page.specs.Header.{page_tested, header}
use Rattle.page.proofs.SlotBounds.{slots_bound}
use Rattle.page.proofs.ElementSlots.{own_there, overall_there}
use Rattle.page.proofs.HeaderBothWays.{head_written}
use Rattle.control_page.specs.Tests.{first_allows, valid}
use Rattle.control_page.proofs.FirstOffence.{slot_offending}
use Rattle.control_page.specs.Brought.{settings_after, brought_to}
use Rattle.control_page.proofs.ValidPage.{parts_valid}
use Rattle.build_page.specs.Page.{type_kind, stored_in, wanted_in, overall_in, row_for, control_page}
use Rattle.build_page.proofs.SlotsByType.{overall_row, element_row, own_slot_lem, overall_slot_lem, element_kind_at}
use Rattle.build_page.proofs.FirstSlots.{row_for_row, row_for_length, brought}
use Rattle.build_page.proofs.FirstPage.{made_row}

module _ (s w : List ℕ) (f : well_formed s ≡ true) where
  ff : front_formed s ≡ true
  ff = front_formed_lem s f

  headed_made : page_tested s (control_page s w) 0x02 ≡ Ok tt
  unfolding page_tested control_page
  headed_made = rw f (head_written (row_for s w) (row_for_length s w) s 0x02 0 (slots_of s) (omega (arith, slots_bound s ff)))

  first : first_allows (control_page s w) ≡ true
  unfolding control_page header
  first = refl

  pub made_valid : valid s (control_page s w) ≡ true
  unfolding slot_offending
  made_valid =
      parts_valid s (control_page s w) headed_made first
      (λ i l.
      let e = ap (offending (slot_at s i).kind) (made_row s w i l) ∙ (row_for_row s w i).2 in
      le-ltb (offending (slot_at s i).kind (four_at (control_page s w) (slot_place i))) 4 (omega (arith, e)))

  -- a wish that can be reached: settings that the types may have, and no SWAP over a stored 0
  abbrev pub Can : ℕ → Type 0
  Can j = (settings_formed (kind_at s j) (settings_in w j) ≡ true)
      × ((settings_of (kind_at s j) (settings_in w j)).swap ≡ true → (settings_of (kind_at s j) (settings_at s j)).swap ≡ true)

  module _ (hw : Bytes w) where
    -- element i of type t
    module _ (t : ℕ) (l : t < types_of s) (i : ℕ) (m : i < type_count s t) (c : Can (before s t + i)) (there : before s t + i < elements_of s) where
      reached_in : settings_after s (control_page s w) (before s t + i) ≡ wanted_in s w t i
      unfolding settings_after places_of
      reached_in =
          let j = before s t + i in
          let k = type_kind s t in
          let o = overall_in s w t in
          let g : settings_formed k (settings_in w j) ≡ true = rw (element_kind_at s ff t l i m) at c.0 in
          let z : (settings_of k (settings_in w j)).swap ≡ true → (settings_of k (settings_at s j)).swap ≡ true = rw (element_kind_at s ff t l i m) at c.1 in
          let own : four_at (control_page s w) (slot_place (own_slot s j)) ≡ one k (control_of k o) (stored_in s t i) (wanted_in s w t i) =
          made_row s w (own_slot s j) (own_there s j there ff) ∙ ap (row_for s w) (own_slot_lem s ff t l i m) ∙ element_row s ff t l i m w in
          let all : four_at (control_page s w) (slot_place (overall_slot s j)) ≡ o =
          made_row s w (overall_slot s j) (overall_there s j there ff) ∙ ap (row_for s w) (overall_slot_lem s ff t l i m) ∙ overall_row s ff t l w in
          rw (own, all, element_kind_at s ff t l i m)
          (one_reaches k (stored_in s t i) (wanted_in s w t i) (control_of k o) (refl, four_small w hw (4 * j), g, z) (settings_length s j))

    module _ (can : (j : ℕ) → j < elements_of s → Can j) where
      reached_at : (j : ℕ) → j < elements_of s → settings_after s (control_page s w) j ≡ settings_in w j
      reached_at j l =
          let t = type_of s j in
          let a = type_start s j l in
          let i = j - before s t in
          let e : before s t + i ≡ j = omega (arith, a) in
          let m : i < type_count s t = omega (arith, a, type_end s j l, before_next s t) in
          let h = reached_in t (type_named s j ff l) i m (can (before s t + i) (rw e l)) (rw e l) in
          rw e at h

      pub made_brings : length w ≡ 4 * elements_of s → brought_to s (control_page s w) ≡ w
      unfolding brought_to
      made_brings e =
          joined_same (settings_after s (control_page s w)) (settings_in w) (elements_of s) reached_at
          ∙ list_joined w (elements_of s) e

-- no control element sets a SWAP, so a wish for one that is not stored is reached by no page
pub out_of_reach : (s w : List ℕ) (j : ℕ) → j < elements_of s → (settings_of (kind_at s j) (settings_in w j)).swap ≡ true → (settings_of (kind_at s j) (settings_at s j)).swap ≡ false
    → (q : List ℕ) → brought_to s q ≡ w → ⊥
unfolding settings_after places_of
out_of_reach s w j l a b q e =
    let h = brought s w q e j l in
    never (sym (swap_kept_lem (kind_at s j) (four_at q (slot_place (overall_slot s j))) (four_at q (slot_place (own_slot s j))) (settings_at s j) (ap (λ (x : List ℕ). (settings_of (kind_at s j) x).swap) h ∙ a)) ∙ b)
