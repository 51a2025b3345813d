-- What the tests of a Threshold Out page say of each element. Assumes nothing.
use Rattle.std.specs.Prelude.{Ok}
use mathlib.Core.Path.{◌≡◌}
use mathlib.Core.Bool.{true}
use mathlib.Core.List.{List}
use Prim.Native.Nat.{ℕ, ◌<◌}
use Rattle.bits.specs.Choice.{first_below}
use Rattle.bits.specs.Places.{four_at}
use Rattle.bits.proofs.Logic.{below_at}
use Rattle.element.specs.Types.{had, ordered}
use Rattle.element.proofs.TypeThresholds.{taken_had}
use Rattle.refusals.specs.declared.Refusal.TheVariants.{NoSuchThreshold, ThresholdOrder}
use Rattle.refusals.proofs.AcceptedTests.{accepted, held, held_both, held_page, held_offence}
use Rattle.shelf.specs.Types.{elements_of, kind_at}
use Rattle.shelf.specs.Elements.{thresholds_at}
use Rattle.shelf_formed.specs.Formed.{well_formed}
use Rattle.shelf_formed.proofs.ElementTypes.{front_formed_lem}
use Rattle.shelf_formed.proofs.FormedShelf.{in_element}
use Rattle.page.specs.Slots.{slots_of, slot_at, slot_place}
use Rattle.page.specs.Places.{own_slot, overall_slot, places_of}
use Rattle.page.specs.Header.{page_tested}
use Rattle.page.proofs.HeaderTests.{tested_formed}
use Rattle.page.proofs.ElementSlots.{own_kind, overall_kind, own_there, overall_there}
use Rattle.threshold_rows.specs.Rows.{on_page, row_had, all_had, byte_offends, had_tested}
use Rattle.threshold_page_out.specs.Taken.{thresholds_after}
use Rattle.threshold_page_out.specs.Tests.{element_ordered, all_ordered, order_tested, limits_tested, bytes_tested, thresholds_tested, valid}

module _ (s p : List ℕ) (v : valid s p ≡ true) where
  parts : (page_tested s p 0x05 ≡ Ok tt) × (all_had s p on_page (slots_of s) ≡ true) × (all_ordered s p ≡ true)
  unfolding valid thresholds_tested bytes_tested limits_tested
  parts =
      let n = slots_of s in
      let e = slot_place n in
      let h = held_page (page_tested s p 0x05) (bytes_tested s p n) (accepted (thresholds_tested s p) v) in
      let h1 = held_offence (first_below (byte_offends p) e) e (limits_tested s p n) h.1 in
      let h2 = held_both (had_tested s p on_page n) (order_tested s p) h1.1 in
      (h.0, (held (all_had s p on_page n) NoSuchThreshold (Ok tt) h2.0).0, (held (all_ordered s p) ThresholdOrder (Ok tt) h2.1).0)

  pub valid_headed : page_tested s p 0x05 ≡ Ok tt
  valid_headed = parts.0

  pub valid_formed : well_formed s ≡ true
  valid_formed = tested_formed s p 0x05 valid_headed

  row_had_lem : (i : ℕ) → i < slots_of s → had (slot_at s i).kind (four_at p (slot_place i)) ≡ true
  unfolding all_had row_had
  row_had_lem i l = below_at (row_had s p on_page) (slots_of s) parts.1 i l

  module _ (j : ℕ) (l : j < elements_of s) where
    -- it has no threshold that its type doesn't have
    pub after_had : had (kind_at s j) (thresholds_after s p j) ≡ true
    unfolding thresholds_after places_of
    after_had =
        let k = kind_at s j in
        let e = front_formed_lem s valid_formed in
        let i = own_slot s j in
        let m = overall_slot s j in
        let a : had k (four_at p (slot_place i)) ≡ true = rw (own_kind s j l) at (row_had_lem i (own_there s j l e)) in
        let b : had k (four_at p (slot_place m)) ≡ true = rw (overall_kind s j l) at (row_had_lem m (overall_there s j l e)) in
        taken_had k (four_at p (slot_place i)) (four_at p (slot_place m)) (thresholds_at s j) a b (in_element s valid_formed j l).1

    -- and they are in order
    pub after_ordered : ordered (kind_at s j) (thresholds_after s p j) ≡ true
    unfolding all_ordered element_ordered
    after_ordered = below_at (element_ordered s p) (elements_of s) parts.2 j l
