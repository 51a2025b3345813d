-- What a control page leaves of a shelf, and what it brings it to. Assumes nothing.
use mathlib.Core.Path.{◌≡◌, sym, ap, ap₂, ◌∙◌}
use mathlib.Core.Bool.{true, false}
use mathlib.Core.List.{List}
use mathlib.Core.Logic.{inr}
use Prim.Native.Nat.{ℕ, ◌+◌, ◌<◌}
use native.Mathlib.Omega.{arith}
use lib.Dec.{ltb}
use lib.ListN.{length, get_or}
use Rattle.bits.specs.Places.{four_at}
use Rattle.bits.specs.Rows.{joined}
use Rattle.bits.proofs.Logic.{by_case, pick_no}
use Rattle.bits.proofs.Rows.{joined_four, joined_same}
use Rattle.element.specs.Types.{had, ordered}
use Rattle.element.specs.Settings.{settings_formed}
use Rattle.element_control.specs.Control.{selected, offending, settled}
use Rattle.element_control.proofs.Acting.{settled_formed, settled_twice, settled_none}
use Rattle.shelf.specs.Limits.{element_place}
use Rattle.shelf.specs.Types.{elements_of, kind_at}
use Rattle.shelf.specs.Elements.{settings_at, thresholds_at, reading_at, nominal_at}
use Rattle.shelf.specs.SettingsList.{settings_in, stored_settings, with_settings}
use Rattle.shelf.proofs.SettingsList.{settings_place}
use Rattle.shelf_formed.specs.Formed.{well_formed}
use Rattle.shelf_formed.proofs.ElementPut.{room}
use Rattle.shelf_formed.proofs.ElementTypes.{front_formed_lem}
use Rattle.shelf_formed.proofs.FormedShelf.{in_element}
use Rattle.shelf_formed.proofs.FrontOfShelf.{front, elements_alike}
use Rattle.shelf_formed.proofs.ElementsPut.{length-same, front_same, four_same, reading_same, nominal_same, row_put, element_same, rows_unmoved, formed_same}
use Rattle.page.specs.declared.places.Places.{Places}
use Rattle.page.specs.declared.slots.Slot.{Slot}
use Rattle.page.specs.Slots.{slots_of, slot_place}
use Rattle.page.specs.Places.{own_slot, overall_slot, places_of}
use Rattle.page.proofs.ElementSlots.{places_alike, own_there, overall_there}
use Rattle.page.proofs.SameFront.{slots_alike, slot_alike, tested_alike}
use Rattle.control_page.specs.Tests.{valid}
use Rattle.control_page.proofs.FirstOffence.{slot_offending}
use Rattle.control_page.specs.Brought.{acting_at, settings_after, brought_to}
pub use Rattle.control_page.specs.Brought.{after}
use Rattle.control_page.proofs.ValidPage.{valid_headed, valid_formed, valid_first, valid_slot, parts_valid}
use Rattle.control_page.proofs.PageActs.{after_length}

module _ (s p : List ℕ) where
  abbrev n : ℕ
  n = elements_of s

  abbrev f : ℕ → List ℕ
  f = settings_in (brought_to s p)

  pub length-kept : length (after s p) ≡ length s
  unfolding with_settings
  length-kept = length-same element_place 0 settings_place (omega arith) f s n (valid s p)

  -- the configuration part never changes
  pub configuration_kept : front (after s p) ≡ front s
  unfolding with_settings
  configuration_kept = front_same element_place 0 settings_place (omega arith) f s n (valid s p)

  -- nor do thresholds, reading and nominal
  pub thresholds_kept : (j : ℕ) → thresholds_at (after s p) j ≡ thresholds_at s j
  unfolding with_settings thresholds_at
  thresholds_kept j = four_same element_place 0 settings_place (omega arith) f s n (valid s p) j 4 (omega arith) (inr (omega arith))

  pub reading_kept : (j : ℕ) → reading_at (after s p) j ≡ reading_at s j
  unfolding with_settings
  reading_kept j = reading_same element_place 0 settings_place (omega arith) f s n (valid s p) j

  pub nominal_kept : (j : ℕ) → nominal_at (after s p) j ≡ nominal_at s j
  unfolding with_settings
  nominal_kept j = nominal_same element_place 0 settings_place (omega arith) f s n (valid s p) j

  brought_row : (j : ℕ) → j < n → f j ≡ settings_after s p j
  unfolding brought_to
  brought_row j l = joined_four (settings_after s p) (after_length s p) n j l

  -- an accepted page brings the shelf to its settings
  module _ (v : valid s p ≡ true) where
    pub settings_reached : (j : ℕ) → j < n → settings_at (after s p) j ≡ settings_after s p j
    unfolding with_settings settings_at
    settings_reached j l =
        row_put element_place 0 settings_place (omega arith) f s n (valid s p) v j l (room s j (valid_formed s p v) l) ∙ brought_row j l

    pub reached : stored_settings (after s p) ≡ brought_to s p
    unfolding brought_to
    reached =
        ap (joined (settings_at (after s p))) (elements_alike s (after s p) configuration_kept)
        ∙ joined_same (settings_at (after s p)) (settings_after s p) n settings_reached

  -- an element that keeps its settings keeps every byte
  pub settled_kept : (j : ℕ) → j < n → settings_after s p j ≡ settings_at s j → (q : ℕ) → q < 16 → get_or (after s p) (element_place j + q) 0 ≡ get_or s (element_place j + q) 0
  unfolding with_settings settings_at
  settled_kept j l e q m = element_same element_place 0 settings_place (omega arith) f s n (valid s p) j (λ v. settings_reached v j l ∙ e) q m

  -- and one on which nothing acts does
  pub unchosen_kept : (j : ℕ) → j < n → (acting_at p (places_of s j)).select ≡ false → (q : ℕ) → q < 16 → get_or (after s p) (element_place j + q) 0 ≡ get_or s (element_place j + q) 0
  unchosen_kept j l e = settled_kept j l same
    where
      same : settings_after s p j ≡ settings_at s j
      same = unfold settings_after settled in pick_no _ _ _ e

  -- a well-formed shelf stays well formed
  module _ (w : well_formed s ≡ true) where
    made : (j : ℕ) → settings_formed (kind_at s j) (settings_at s j) ≡ true → settings_formed (kind_at s j) (settings_after s p j) ≡ true
    unfolding settings_after places_of
    made j h = settled_formed (kind_at s j) (four_at p (slot_place (overall_slot s j))) (four_at p (slot_place (own_slot s j))) (settings_at s j) h

    settings : (j : ℕ) → j < n → settings_formed (kind_at s j) (settings_at s j) ≡ true → settings_formed (kind_at s j) (settings_at (after s p) j) ≡ true
    settings j l h =
        by_case (valid s p)
        (λ v. ap (settings_formed (kind_at s j)) (settings_reached v j l) ∙ made j h)
        (λ v. ap (λ (x : List ℕ). settings_formed (kind_at s j) (settings_at x j)) (pick_no (valid s p) (with_settings s (brought_to s p)) s v) ∙ h)

    pub stays_formed : well_formed (after s p) ≡ true
    unfolding with_settings
    stays_formed =
        formed_same element_place 0 settings_place (omega arith) f s n (valid s p) w
        (λ j l.
        let e = in_element s w j l in
        (settings j l e.0, ap (had (kind_at s j)) (thresholds_kept j) ∙ e.1, ap (ordered (kind_at s j)) (thresholds_kept j) ∙ e.2))

  -- what is stored already is put again
  unmoved : (valid s p ≡ true → (j : ℕ) → j < n → settings_after s p j ≡ settings_at s j) → after s p ≡ s
  unfolding with_settings settings_at
  unmoved h = rows_unmoved element_place 0 settings_place (omega arith) f s n (valid s p) (λ v j l. brought_row j l ∙ h v j l)

  -- a page without any SELECT changes nothing
  pub no_select : ((i : ℕ) → i < slots_of s → selected (four_at p (slot_place i)) ≡ false) → after s p ≡ s
  unfolding settings_after places_of
  no_select h =
      unmoved
      (λ v j l.
      let e = front_formed_lem s (valid_formed s p v) in
      settled_none (kind_at s j) (four_at p (slot_place (overall_slot s j))) (four_at p (slot_place (own_slot s j))) (settings_at s j)
      (h (overall_slot s j) (overall_there s j l e))
      (h (own_slot s j) (own_there s j l e)))

-- applying a page twice is applying it once
pub twice : (s p : List ℕ) → after (after s p) p ≡ after s p
twice s p = by_case (valid s p) accepted_twice refused_twice
  where
    refused_twice : valid s p ≡ false → after (after s p) p ≡ after s p
    refused_twice v = ap (λ (x : List ℕ). after x p) (pick_no (valid s p) (with_settings s (brought_to s p)) s v)

    settled_again : (at : Places) (e : List ℕ) → settled at.kind (acting_at p at) (settled at.kind (acting_at p at) e) ≡ settled at.kind (acting_at p at) e
    settled_again at e = settled_twice at.kind (four_at p at.overallplace) (four_at p at.ownplace) e

    accepted_twice : valid s p ≡ true → after (after s p) p ≡ after s p
    accepted_twice v =
        unmoved (after s p) p
        (λ w j m.
        let l : j < elements_of s = rw (elements_alike s (after s p) (configuration_kept s p)) at m in
        let q = places_alike s (after s p) (configuration_kept s p) j l in
        let r = settings_reached s p v j l in
        unfold settings_after in
        ap₂ (λ (at : Places) (e : List ℕ). settled at.kind (acting_at p at) e) q r ∙ settled_again (places_of s j) (settings_at s j) ∙ sym r)

-- and the second time it is accepted as well
pub valid_again : (s p : List ℕ) → valid s p ≡ true → valid (after s p) p ≡ true
unfolding slot_offending
valid_again s p v =
    let w = valid_formed s p v in
    let e = configuration_kept s p in
    parts_valid (after s p) p (tested_alike s (after s p) e p 0x02 w (stays_formed s p w) ∙ valid_headed s p v) (valid_first s p v)
    (λ i m.
    let l : i < slots_of s = rw (slots_alike s (after s p) e) at m in
    ap (λ (at : Slot). ltb (offending at.kind (four_at p (slot_place i))) 4) (slot_alike s (after s p) e (front_formed_lem s w) i l) ∙ valid_slot s p v i l)
