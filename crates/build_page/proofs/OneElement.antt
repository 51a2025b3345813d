-- A wish for one element: the page has nothing in any slot but its own. Assumes nothing.
use mathlib.Core.Path.{◌≡◌, ap, ◌∙◌}
use mathlib.Core.Bool.{Bool, true, false, not}
use mathlib.Core.List.{List}
use Prim.Native.Nat.{ℕ, zero, suc, ◌+◌, ◌<◌, ◌≤◌}
use native.Mathlib.Omega.{arith}
use lib.Dec.{eqb, ltb}
use borrow.Author.Tests.{eqb-true, eqb-false, ltb-true, ltb-false}
use Rattle.bits.specs.Choice.{sum_below}
use Rattle.bits.specs.Bits.{num}
use Rattle.bits.specs.Numbers.{Bytes}
use Rattle.bits.specs.Places.{four_at}
use Rattle.bits.proofs.Halves.{num_small}
use Rattle.bits.proofs.Logic.{by_case, pick_yes, pick_no}
use Rattle.build_order.specs.Search.{cost, best}
use Rattle.build_order.proofs.BestRow.{best_none}
use Rattle.element.specs.declared.types.Kind.{Kind}
use Rattle.element_control.specs.Control.{control_of}
use Rattle.build_element.specs.Wishes.{silent, brings}
use Rattle.build_element.proofs.FirstElement.{Row, brings_same, one_same}
use Rattle.build_element.proofs.BestPart.{search_facts}
use Rattle.shelf.specs.Types.{types_of, type_count, before, elements_of}
use Rattle.shelf.specs.Elements.{settings_at}
use Rattle.shelf.specs.SettingsList.{settings_in}
use Rattle.shelf_formed.specs.Formed.{front_formed}
use Rattle.shelf_formed.proofs.ElementTypes.{front_formed_lem}
use Rattle.page.specs.Slots.{slots_of, slot_type, slot_at, slot_place}
use Rattle.page.specs.Places.{own_slot}
use Rattle.page.proofs.SlotsBefore.{start_up}
use Rattle.page.proofs.SlotTypes.{start_below, types_below}
use Rattle.page.proofs.SlotsOfFront.{after_start, first_is, first_typed, first_there}
use Rattle.control_page.proofs.ValidPage.{valid_formed}
use Rattle.build_page.specs.Promise.{Best}
use Rattle.build_page.specs.Page.{type_kind, stored_in, wanted_in, search_in, overall_in, row_under, row_for}
use Rattle.build_page.proofs.SlotsByType.{slots_end, element_here}
use Rattle.build_page.proofs.FirstPage.{made_row}
use Rattle.build_page.proofs.PromiseLaws.{best_is_made}

-- a sum of ones and zeros that has a one at most at j − d
at_most_one : (f : ℕ → Bool) (j d n : ℕ) → ((i : ℕ) → i < n → (d + i ≡ j → ⊥) → f i ≡ false) → sum_below (λ i. num (f i)) n ≤ 1
at_most_one f j d zero h = omega arith
at_most_one f j d (suc n) h =
    by_case (eqb (d + n) j) (λ t. last (eqb-true (d + n) j t))
    (λ t. let z = h n (omega arith) (eqb-false (d + n) j t) in rw z (omega (arith, at_most_one f j d n (λ i l. h i (omega arith)))))
  where
    none : d + n ≡ j → (m : ℕ) → m ≤ n → sum_below (λ i. num (f i)) m ≡ 0
    none e zero l = omega arith
    none e (suc m) l = let z = h m (omega arith) (λ q. absurd (omega (arith, e, q, l))) in rw z (omega (arith, none e m (omega arith)))

    last : d + n ≡ j → sum_below (λ i. num (f i)) n + num (f n) ≤ 1
    last e = omega (arith, none e n (omega arith), num_small (f n))

module _ (s w : List ℕ) (f : front_formed s ≡ true) (j : ℕ) (same : (i : ℕ) → i < elements_of s → (i ≡ j → ⊥) → settings_at s i ≡ settings_in w i) where
  -- no overall element is selected
  module _ (t : ℕ) (l : t < types_of s) where
    abbrev k : Kind
    k = type_kind s t

    left : (i : ℕ) → i < type_count s t → (before s t + i ≡ j → ⊥) → not (brings k (control_of k silent) (stored_in s t i) (wanted_in s w t i)) ≡ false
    left i m h = ap not (brings_same k (stored_in s t i) (wanted_in s w t i) (same (before s t + i) (element_here s f t l i m) h))

    few : cost (search_in s w t) silent ≤ 1
    unfolding cost
    few = omega (arith, at_most_one (λ i. not (brings k (control_of k silent) (stored_in s t i) (wanted_in s w t i))) j (before s t) (type_count s t) left)

    none_overall : overall_in s w t ≡ silent
    unfolding overall_in best
    none_overall = best_none (search_in s w t) (Row k) (search_facts k (stored_in s t) (wanted_in s w t) (type_count s t)) few (type_count s t)

  module _ (i : ℕ) (h : i < slots_of s) where
    type_there : slot_type s i < types_of s
    type_there =
        by_case (ltb (slot_type s i) (types_of s)) (λ t. ltb-true _ _ t)
        (λ t.
        let u = start_up s (types_of s) (slot_type s i) (ltb-false (slot_type s i) (types_of s) t) in
        absurd (omega (arith, u, start_below s i, slots_end s f, h)))

    o_silent : overall_in s w (slot_type s i) ≡ silent
    o_silent = none_overall (slot_type s i) type_there

    -- an individual slot is its element's own
    module _ (o : (slot_at s i).overall ≡ false) where
      own : (slot_at s i).first ≡ j → i ≡ own_slot s j
      own e = rw (← e) (omega (arith, first_is s f i h o, first_typed s f i h o, after_start s f i h o, types_below s (slot_type s i)))

      element_row : (i ≡ own_slot s j → ⊥) → row_for s w i ≡ silent
      unfolding row_for row_under
      element_row n =
          let at = slot_at s i in
          pick_no _ _ _ o
          ∙ rw o_silent (one_same at.kind (settings_at s at.first) (settings_in w at.first) (same at.first (first_there s f i h o) (λ e. n (own e))))

    pub only_its_own : (i ≡ own_slot s j → ⊥) → row_for s w i ≡ silent
    only_its_own n = by_case (slot_at s i).overall (λ o. overall_row o) (λ o. element_row o n)
      where
        overall_row : (slot_at s i).overall ≡ true → row_for s w i ≡ silent
        overall_row o = unfold row_for row_under in pick_yes _ _ _ o ∙ o_silent

-- so of the best page, where at most the element j is wanted otherwise than stored
pub neighbours : (s w p : List ℕ) (j : ℕ) → Bytes s → Bytes w → Best s w p → ((i : ℕ) → i < elements_of s → (i ≡ j → ⊥) → settings_at s i ≡ settings_in w i)
    → (i : ℕ) → i < slots_of s → (i ≡ own_slot s j → ⊥) → four_at p (slot_place i) ≡ silent
neighbours s w p j hs hw b same i h n =
    ap (λ (q : List ℕ). four_at q (slot_place i)) (best_is_made s w p hs hw b)
    ∙ made_row s w i h
    ∙ only_its_own s w (front_formed_lem s (valid_formed s p b.0.1)) j same i h n
