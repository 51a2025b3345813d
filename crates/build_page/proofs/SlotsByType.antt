-- The slots of a page type by type: the overall element of a type, and then its elements. Assumes nothing.
use mathlib.Core.Path.{◌≡◌, sym, ap, ◌∙◌}
use mathlib.Core.Bool.{true, false}
use mathlib.Core.List.{List}
use Prim.Native.Nat.{ℕ, ◌+◌, ◌-◌, ◌<◌}
use native.Mathlib.Omega.{arith}
use borrow.Author.Tests.{eq-eqb, ne_eqb}
use Rattle.bits.proofs.Logic.{pick_yes, pick_no}
use Rattle.bits.proofs.Sums.{sum_past}
use Rattle.element_control.specs.Control.{control_of}
use Rattle.build_element.specs.Wishes.{one}
use Rattle.shelf.specs.Limits.{most_types}
use Rattle.shelf.specs.Types.{types_of, type_count, before, elements_of, type_of, kind_at}
use Rattle.shelf.proofs.ElementsBefore.{before_next, before_up}
use Rattle.shelf_formed.specs.Formed.{front_formed}
use Rattle.shelf_formed.proofs.FormedShelf.{few_types, type_clear}
use Rattle.shelf_formed.proofs.ElementTypes.{typed}
use Rattle.page.specs.Slots.{slots_of, start_of, slot_type, is_overall, slot_at}
use Rattle.page.specs.Places.{own_slot, overall_slot}
use Rattle.page.proofs.SlotsBefore.{start_next}
use Rattle.page.proofs.SlotTypes.{slotted}
use Rattle.build_page.specs.Page.{type_kind, stored_in, wanted_in, overall_in, row_under, row_for}

module _ (s : List ℕ) (f : front_formed s ≡ true) where
  -- the types that are there have all elements
  pub all_there : before s (types_of s) ≡ elements_of s
  unfolding elements_of before
  all_there = sym (sum_past (type_count s) (types_of s) most_types (few_types s f) (λ t l m. type_clear s f t 1 l m (omega arith)))

  pub slots_end : start_of s (types_of s) ≡ slots_of s
  unfolding start_of slots_of
  slots_end = omega (arith, all_there)

  module _ (t : ℕ) (l : t < types_of s) where
    below : t < most_types
    below = omega (arith, few_types s f)

    overall_typed : slot_type s (start_of s t) ≡ t
    overall_typed = slotted s t (start_of s t) below (omega arith) (omega (arith, start_next s t))

    overall_is : is_overall s (start_of s t) ≡ true
    unfolding is_overall
    overall_is = eq-eqb (start_of s t) (start_of s (slot_type s (start_of s t))) (ap (start_of s) (sym overall_typed))

    -- the slot of a type's overall element
    pub overall_row : (w : List ℕ) → row_for s w (start_of s t) ≡ overall_in s w t
    unfolding row_for row_under slot_at
    overall_row w = pick_yes _ _ _ overall_is ∙ ap (overall_in s w) overall_typed

    pub overall_kind : (slot_at s (start_of s t)).kind ≡ type_kind s t
    unfolding slot_at
    overall_kind = ap (type_kind s) overall_typed

    -- and of its element i
    module _ (i : ℕ) (m : i < type_count s t) where
      pub element_typed : type_of s (before s t + i) ≡ t
      element_typed = typed s t (before s t + i) below (omega arith) (omega (arith, before_next s t))

      slot_typed : slot_type s (start_of s t + (1 + i)) ≡ t
      slot_typed = slotted s t (start_of s t + (1 + i)) below (omega arith) (omega (arith, start_next s t))

      not_overall : is_overall s (start_of s t + (1 + i)) ≡ false
      unfolding is_overall
      not_overall =
          ne_eqb (start_of s t + (1 + i)) (start_of s (slot_type s (start_of s t + (1 + i))))
          (λ e. let z : start_of s (slot_type s (start_of s t + (1 + i))) ≡ start_of s t = ap (start_of s) slot_typed in omega (arith, e, z))

      first_is : (slot_at s (start_of s t + (1 + i))).first ≡ before s t + i
      unfolding slot_at start_of
      first_is =
          pick_no _ _ _ not_overall
          ∙ ap (λ (x : ℕ). before s t + t + (1 + i) - x - 1) slot_typed
          ∙ omega arith

      pub element_kind : (slot_at s (start_of s t + (1 + i))).kind ≡ type_kind s t
      unfolding slot_at
      element_kind = ap (type_kind s) slot_typed

      pub element_row : (w : List ℕ) → row_for s w (start_of s t + (1 + i)) ≡ one (type_kind s t) (control_of (type_kind s t) (overall_in s w t)) (stored_in s t i) (wanted_in s w t i)
      unfolding row_for row_under
      element_row w =
          pick_no _ _ _ overall_false
          ∙ rw (element_kind, first_is, slot_typed)
        where
          overall_false : (slot_at s (start_of s t + (1 + i))).overall ≡ false
          overall_false = unfold slot_at in not_overall

      pub element_here : before s t + i < elements_of s
      unfolding elements_of
      element_here =
          let u = before_up s (t + 1) most_types (omega (arith, below)) in
          omega (arith, u, before_next s t)

      -- where the page has what acts on it
      pub own_slot_lem : own_slot s (before s t + i) ≡ start_of s t + (1 + i)
      unfolding start_of
      own_slot_lem = omega (arith, element_typed)

      pub overall_slot_lem : overall_slot s (before s t + i) ≡ start_of s t
      overall_slot_lem = ap (start_of s) element_typed

      pub element_kind_at : kind_at s (before s t + i) ≡ type_kind s t
      unfolding kind_at
      element_kind_at = ap (type_kind s) element_typed
