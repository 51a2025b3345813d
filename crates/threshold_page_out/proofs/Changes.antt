-- What a Threshold Out page leaves of a shelf, and what it brings it to. Assumes nothing.
use mathlib.Core.Path.{◌≡◌, sym, ap, ◌∙◌}
use mathlib.Core.Bool.{true}
use mathlib.Core.List.{List, [], ◌∷◌}
use mathlib.Core.Logic.{inl}
use Prim.Native.Nat.{ℕ, ◌+◌, ◌<◌}
use native.Mathlib.Nat.{add-zero}
use native.Mathlib.Omega.{arith}
use lib.ListN.{length}
use Rattle.bits.specs.Places.{four_at}
use Rattle.bits.specs.Rows.{joined}
use Rattle.bits.proofs.Logic.{by_case, pick_no}
use Rattle.bits.proofs.Rows.{joined_four, joined_same}
use Rattle.element.specs.Settings.{settings_formed}
use Rattle.element.specs.Types.{had, ordered}
use Rattle.element.proofs.ThresholdsTaken.{taken_none}
use Rattle.shelf.specs.Limits.{element_place, thresholds_place}
use Rattle.shelf.specs.Types.{elements_of, kind_at}
use Rattle.shelf.specs.Elements.{settings_at, thresholds_at}
use Rattle.shelf_formed.specs.Formed.{well_formed}
use Rattle.shelf_formed.proofs.ElementPut.{room}
use Rattle.shelf_formed.proofs.ElementTypes.{front_formed_lem}
use Rattle.shelf_formed.proofs.FormedShelf.{in_element}
use Rattle.shelf_formed.proofs.FrontOfShelf.{front, elements_alike}
use Rattle.shelf_formed.proofs.ElementsPut.{length-same, front_same, four_same, row_put, rows_unmoved, formed_same}
use Rattle.page.specs.Slots.{slots_of, slot_place}
use Rattle.page.specs.Places.{own_slot, overall_slot, places_of}
use Rattle.page.proofs.ElementSlots.{own_there, overall_there}
use Rattle.threshold_page_out.specs.Tests.{valid, after}
use Rattle.threshold_page_out.specs.Taken.{thresholds_after, taken_from, stored_thresholds, thresholds_in, with_thresholds}
use Rattle.threshold_page_out.proofs.ValidPage.{valid_formed, after_had, after_ordered}
use Rattle.threshold_page_out.proofs.PageActs.{thresholds_place_lem, after_length}

module _ (s p : List ℕ) where
  abbrev n : ℕ
  n = elements_of s

  abbrev f : ℕ → List ℕ
  f = thresholds_in (taken_from s p)

  pub length-kept : length (after s p) ≡ length s
  unfolding with_thresholds
  length-kept = length-same thresholds_place 4 thresholds_place_lem (omega arith) f s n (valid s p)

  -- the configuration part never changes
  pub configuration_kept : front (after s p) ≡ front s
  unfolding with_thresholds
  configuration_kept = front_same thresholds_place 4 thresholds_place_lem (omega arith) f s n (valid s p)

  settings_kept : (j : ℕ) → settings_at (after s p) j ≡ settings_at s j
  unfolding with_thresholds settings_at
  settings_kept j =
      let e : element_place j ≡ element_place j + 0 = sym (add-zero (element_place j)) in
      rw e (four_same thresholds_place 4 thresholds_place_lem (omega arith) f s n (valid s p) j 0 (omega arith) (inl (omega arith)))

  taken_row : (j : ℕ) → j < n → f j ≡ thresholds_after s p j
  unfolding taken_from
  taken_row j l = joined_four (thresholds_after s p) (after_length s p) n j l

  -- an accepted page brings the shelf to its thresholds
  module _ (v : valid s p ≡ true) where
    pub thresholds_reached : (j : ℕ) → j < n → thresholds_at (after s p) j ≡ thresholds_after s p j
    unfolding with_thresholds thresholds_at
    thresholds_reached j l =
        row_put thresholds_place 4 thresholds_place_lem (omega arith) f s n (valid s p) v j l (room s j (valid_formed s p v) l) ∙ taken_row j l

    pub reached : stored_thresholds (after s p) ≡ taken_from s p
    unfolding taken_from
    reached =
        ap (joined (thresholds_at (after s p))) (elements_alike s (after s p) configuration_kept)
        ∙ joined_same (thresholds_at (after s p)) (thresholds_after s p) n thresholds_reached

  -- four zeros in a slot ask for nothing
  abbrev pub Silent : ℕ → Type 0
  Silent i = four_at p (slot_place i) ≡ 0 ∷ 0 ∷ 0 ∷ 0 ∷ []

  same : (j : ℕ) → Silent (overall_slot s j) → Silent (own_slot s j) → thresholds_after s p j ≡ thresholds_at s j
  unfolding thresholds_after places_of thresholds_at
  same j a b = taken_none (thresholds_at s j) b a

  -- a well-formed shelf stays well formed
  module _ (w : well_formed s ≡ true) where
    thresholds : (j : ℕ) → j < n
        → (had (kind_at s j) (thresholds_at (after s p) j) ≡ true) × (ordered (kind_at s j) (thresholds_at (after s p) j) ≡ true)
    thresholds j l =
        let k = kind_at s j in
        by_case (valid s p)
        (λ v. (ap (had k) (thresholds_reached v j l) ∙ after_had s p v j l, ap (ordered k) (thresholds_reached v j l) ∙ after_ordered s p v j l))
        (λ v.
        let e = ap (λ (x : List ℕ). thresholds_at x j) (pick_no (valid s p) (with_thresholds s (taken_from s p)) s v) in
        (ap (had k) e ∙ (in_element s w j l).1, ap (ordered k) e ∙ (in_element s w j l).2))

    pub stays_formed : well_formed (after s p) ≡ true
    unfolding with_thresholds
    stays_formed =
        formed_same thresholds_place 4 thresholds_place_lem (omega arith) f s n (valid s p) w
        (λ j l.
        let t = thresholds j l in (ap (settings_formed (kind_at s j)) (settings_kept j) ∙ (in_element s w j l).0, t.0, t.1))

  -- a page of zeros changes nothing
  pub no_thresholds : ((i : ℕ) → i < slots_of s → Silent i) → after s p ≡ s
  unfolding with_thresholds thresholds_at
  no_thresholds h =
      rows_unmoved thresholds_place 4 thresholds_place_lem (omega arith) f s n (valid s p)
      (λ v j l.
      let e = front_formed_lem s (valid_formed s p v) in
      taken_row j l ∙ same j (h (overall_slot s j) (overall_there s j l e)) (h (own_slot s j) (own_there s j l e)))
