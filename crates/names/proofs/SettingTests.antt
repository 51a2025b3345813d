-- The tests before a name is set, and the name put, from what the calls say. Assumes nothing.
use Rattle.std.specs.Prelude.{Ok, Err, Some, None, Option}
use mathlib.Core.Path.{◌≡◌, refl, sym, ap, ◌∙◌}
use mathlib.Core.Bool.{Bool, true, false}
use mathlib.Core.List.{List, ◌++◌}
use Prim.Native.Nat.{ℕ, ◌+◌, ◌-◌, ◌<◌, ◌≤◌}
use native.Mathlib.Omega.{arith}
use lib.Dec.{ltb}
use lib.ListN.{length, replicate}
use borrow.Author.Tests.{lt-ltb, le-ltb, ltb-true}
use Rattle.bits.specs.Rows.{bytes_at, put_bytes}
use Rattle.bits.proofs.Logic.{pick_yes, pick_no}
use Rattle.bits.proofs.Rows.{bytes_whole}
use Rattle.refusals.specs.declared.Refusal.{Refusal}
use Rattle.refusals.specs.declared.Refusal.TheVariants.{ShelfNotWellFormed, NoSuchElement, NotAllowed}
use Rattle.refusals.specs.Outcomes.{unless, next, Changes}
use Rattle.refusals.proofs.AcceptedTests.{held}
use Rattle.shelf.specs.Limits.{most_types, most_elements, most_text, name_place, HasTypes, HasElement}
use Rattle.shelf.specs.declared.types.Run.{Run}
use Rattle.shelf.specs.Types.{types_of, before, elements_of, run_at}
use Rattle.shelf.proofs.ElementsBefore.{before_up}
use Rattle.shelf_formed.specs.declared.Sizes.{Sizes}
use Rattle.shelf_formed.specs.Formed.{well_formed, opened}
use Rattle.shelf_formed.proofs.Opening.{formed_sizes, not_formed}
use Rattle.shelf_formed.proofs.ElementPut.{length-formed, shelf_there, room}
use Rattle.shelf_formed.proofs.ElementTypes.{front_formed_lem}
use Rattle.shelf_formed.proofs.FormedShelf.{few_types, few_elements}
use Rattle.page.specs.Slots.{slots_of, start_of}
use Rattle.page.specs.Places.{own_slot}
use Rattle.page.specs.Header.{shelf_tested}
use Rattle.page.proofs.SlotBounds.{slots_bound}
use Rattle.page.proofs.ElementSlots.{own_there}
use Rattle.names.specs.Name.{is_name, padded}
use Rattle.names.specs.Setting.{number_tested, name_set, set_if, element_tested, element_named, overall_tested, overall_named}
use Rattle.names.proofs.NameBack.{length-padded}
use Rattle.refusals.specs.Answers.{Answer}

-- 15 and 6
module _ (j n : ℕ) (x : List ℕ) where
  pub past_last : n ≤ j → Err NoSuchElement ≡ number_tested j n x
  unfolding number_tested
  past_last l = sym (pick_no _ _ _ (le-ltb j n l))

  module _ (l : j < n) {b : Bool} (h : b ≡ is_name x) where
    name_tested : number_tested j n x ≡ unless b NotAllowed (Ok tt)
    unfolding number_tested
    name_tested = pick_yes _ _ _ (lt-ltb j n l) ∙ ap (λ (t : Bool). unless t NotAllowed (Ok tt)) (sym h)

    pub no_name : b ≡ false → Err NotAllowed ≡ number_tested j n x
    no_name u = sym (name_tested ∙ ap (λ (t : Bool). unless t NotAllowed (Ok tt)) u)

    pub a_name : b ≡ true → (Ok tt) ≡ number_tested j n x
    a_name u = sym (name_tested ∙ ap (λ (t : Bool). unless t NotAllowed (Ok tt)) u)

  -- where they accept, both hold
  pub number_held : number_tested j n x ≡ Ok tt → (j < n) × (is_name x ≡ true)
  unfolding number_tested
  number_held e =
      let a = held (ltb j n) NoSuchElement (unless (is_name x) NotAllowed (Ok tt)) e in
      (ltb-true j n a.0, (held (is_name x) NotAllowed (Ok tt) a.1).0)

-- each slot has a name in the block
module _ (s : List ℕ) (w : well_formed s ≡ true) where
  pub name_room : (i : ℕ) → i < slots_of s → name_place (elements_of s) i + most_text ≤ length s
  unfolding slots_of
  name_room i l = omega (arith, length-formed s w)

  pub overall_there : (t : ℕ) → t < types_of s → start_of s t < slots_of s
  unfolding slots_of start_of elements_of
  overall_there t l = let u = few_types s (front_formed_lem s w) in omega (arith, before_up s t most_types (omega arith))

-- the name put
module _ (s : List ℕ) (i : ℕ) (x : List ℕ) (h : is_name x ≡ true) {n k : ℕ} (p : n ≡ elements_of s) (q : k ≡ name_place n i)
    {r : List ℕ} (e : r ≡ bytes_at x 0 (length x) ++ replicate (most_text - length x) 0) where
  as_padded : r ≡ padded x
  unfolding padded
  as_padded = e ∙ ap (λ (y : List ℕ). y ++ replicate (most_text - length x) 0) (bytes_whole x (length x) refl)

  pub room_length : length r ≡ most_text
  room_length = ap length as_padded ∙ length-padded x h

  pub name_put : {o : List ℕ} → o ≡ put_bytes s k (bytes_at r 0 most_text) → o ≡ name_set s i x
  unfolding name_set
  name_put u = u ∙ rw (bytes_whole r most_text room_length, as_padded, q, p)

-- the tests behind each other, and what the call leaves
module _ (s : List ℕ) (j n : ℕ) (x after : List ℕ) where
  abbrev tested : Answer
  tested = next (shelf_tested s) (number_tested j n x)

  pub not_opened : opened s ≡ None → Changes tested (set_if tested after s) (Err ShelfNotWellFormed) s
  not_opened e = rw (not_formed s e) (refl, refl)

  module _ (w : well_formed s ≡ true) {m : ℕ} (e : m ≡ n) {a : Answer} (h : a ≡ number_tested j m x) where
    as_tested : a ≡ tested
    as_tested = rw w (h ∙ ap (λ (k : ℕ). number_tested j k x) e)

    pub test_refused : {r : Refusal} → a ≡ Err r → Changes tested (set_if tested after s) a s
    test_refused u = (as_tested, sym (ap (λ (b : Answer). set_if b after s) (sym as_tested ∙ u)))

    pub name_set_lem : {o : List ℕ} → a ≡ Ok tt → o ≡ after → Changes tested (set_if tested after s) a o
    name_set_lem u q = (as_tested, q ∙ sym (ap (λ (b : Answer). set_if b after s) (sym as_tested ∙ u)))

    pub test_held : a ≡ Ok tt → (j < n) × (is_name x ≡ true)
    test_held u = number_held j n x (sym (ap (λ (k : ℕ). number_tested j k x) e) ∙ sym h ∙ u)

-- a shelf that was opened, and a text to name element j or the overall element of type j
module _ (s : List ℕ) (j : ℕ) (x : List ℕ) {o : Option Sizes} (h : o ≡ opened s) where
  pub element_not_opened : o ≡ None → Changes (element_tested s j x) (element_named s j x) (Err ShelfNotWellFormed) s
  unfolding element_tested
  element_not_opened u = not_opened s j (elements_of s) x (name_set s (own_slot s j) x) (sym h ∙ u)

  pub overall_not_opened : o ≡ None → Changes (overall_tested s j x) (overall_named s j x) (Err ShelfNotWellFormed) s
  unfolding overall_tested
  overall_not_opened u = not_opened s j (types_of s) x (name_set s (start_of s j) x) (sym h ∙ u)

  module _ {z : Sizes} (u : o ≡ Some z) where
    pub sizes_there : (well_formed s ≡ true) × (z.types ≡ types_of s) × (z.elements ≡ elements_of s)
    sizes_there = formed_sizes s (sym h ∙ u)

    -- element j
    module _ {a : Answer} (t : a ≡ number_tested j z.elements x) where
      pub element_refused : {r : Refusal} → a ≡ Err r → Changes (element_tested s j x) (element_named s j x) a s
      unfolding element_tested
      element_refused v = test_refused s j (elements_of s) x (name_set s (own_slot s j) x) sizes_there.0 sizes_there.2 t v

      module _ (v : a ≡ Ok tt) where
        pub element_held : (j < elements_of s) × (is_name x ≡ true)
        element_held = test_held s j (elements_of s) x s sizes_there.0 sizes_there.2 t v

        pub element_small : j < most_elements
        element_small = omega (arith, element_held.0, few_elements s (front_formed_lem s sizes_there.0))

        pub element_room : HasElement s j
        element_room = room s j sizes_there.0 element_held.0

        module _ {r : Run} (q : r ≡ run_at s j) where
          slot_is : j + r.number + 1 ≡ own_slot s j
          slot_is = ap (λ (y : Run). j + y.number + 1) q

          pub slot_there : j + r.number + 1 < slots_of s
          slot_there = rw slot_is (own_there s j element_held.0 (front_formed_lem s sizes_there.0))

          pub slot_small : j + r.number + 1 ≤ most_types + most_elements
          slot_small = omega (arith, slot_there, slots_bound s (front_formed_lem s sizes_there.0))

          pub element_set : {y : List ℕ} → y ≡ name_set s (j + r.number + 1) x → Changes (element_tested s j x) (element_named s j x) a y
          unfolding element_tested
          element_set e =
              name_set_lem s j (elements_of s) x (name_set s (own_slot s j) x) sizes_there.0 sizes_there.2 t v (e ∙ ap (λ (i : ℕ). name_set s i x) slot_is)

    -- the overall element of type j
    module _ {a : Answer} (t : a ≡ number_tested j z.types x) where
      pub overall_refused : {r : Refusal} → a ≡ Err r → Changes (overall_tested s j x) (overall_named s j x) a s
      unfolding overall_tested
      overall_refused v = test_refused s j (types_of s) x (name_set s (start_of s j) x) sizes_there.0 sizes_there.1 t v

      module _ (v : a ≡ Ok tt) where
        pub overall_held : (j < types_of s) × (is_name x ≡ true)
        overall_held = test_held s j (types_of s) x s sizes_there.0 sizes_there.1 t v

        pub type_small : j < most_types
        type_small = omega (arith, overall_held.0, few_types s (front_formed_lem s sizes_there.0))

        pub types_room : HasTypes s
        types_room = (shelf_there s sizes_there.0).1

        module _ {n : ℕ} (q : n ≡ before s j) where
          start_is : n + j ≡ start_of s j
          unfolding start_of
          start_is = ap (λ (m : ℕ). m + j) q

          pub start_there : n + j < slots_of s
          start_there = rw start_is (overall_there s sizes_there.0 j overall_held.0)

          pub start_small : n + j ≤ most_types + most_elements
          start_small = omega (arith, start_there, slots_bound s (front_formed_lem s sizes_there.0))

          pub overall_set : {y : List ℕ} → y ≡ name_set s (n + j) x → Changes (overall_tested s j x) (overall_named s j x) a y
          unfolding overall_tested
          overall_set e =
              name_set_lem s j (types_of s) x (name_set s (start_of s j) x) sizes_there.0 sizes_there.1 t v (e ∙ ap (λ (i : ℕ). name_set s i x) start_is)
