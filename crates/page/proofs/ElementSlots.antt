-- The two slots of an element: that they are there and of its type, and the same on shelves with the same front.
-- Assumes nothing.
use Rattle.std.specs.Prelude.{Ok}
use mathlib.Core.Path.{◌≡◌, sym, ap, ◌∙◌}
use mathlib.Core.Bool.{true, false}
use mathlib.Core.List.{List}
use Prim.Native.Nat.{ℕ, ◌+◌, ◌<◌}
use native.Mathlib.Omega.{arith}
use lib.ListN.{length}
use borrow.Author.Tests.{ne_eqb}
use Rattle.bits.proofs.Logic.{pick_no}
use Rattle.element.specs.Types.{kind_of}
use Rattle.shelf.specs.Types.{type_code, before, elements_of, type_of, kind_at}
use Rattle.shelf.specs.Limits.{HasElement}
use Rattle.shelf_formed.specs.Formed.{front_formed, HasFront, well_formed}
use Rattle.shelf_formed.proofs.ElementPut.{length-formed, room}
use Rattle.shelf_formed.proofs.FrontOfShelf.{front, before_alike, type_alike, kind_alike}
use Rattle.shelf_formed.proofs.ElementTypes.{front_formed_lem, type_below, type_start, type_end, type_named}
use Rattle.page.specs.declared.places.Places.{Places}
use Rattle.page.specs.declared.slots.Slot.{Slot}
use Rattle.page.specs.Slots.{slots_of, start_of, slot_type, is_overall, slot_at, HasElements}
use Rattle.page.proofs.SlotsBefore.{start_next}
use Rattle.page.specs.Places.{own_slot, overall_slot, places_of, HasSlots}
use Rattle.page.specs.Header.{page_tested, HasPage}
use Rattle.page.proofs.SlotTypes.{slotted}
use Rattle.page.proofs.SlotsOfFront.{first_within, end_there}
use Rattle.shelf_formed.proofs.ElementPut.{shelf_there}
use Rattle.page.proofs.HeaderBothWays.{tested_has}
use Rattle.refusals.specs.Answers.{Answer}

pub places_alike : (s x : List ℕ) → front x ≡ front s → (j : ℕ) → j < elements_of s → places_of x j ≡ places_of s j
unfolding places_of start_of
places_alike s x e j l =
    rw (kind_alike s x e j l, type_alike s x e j, before_alike s x e (type_of s j) (omega (arith, type_below s j l)))

module _ (s : List ℕ) where
  module _ (j : ℕ) (l : j < elements_of s) where
    own_type : slot_type s (own_slot s j) ≡ type_of s j
    unfolding start_of
    own_type =
        slotted s (type_of s j) (own_slot s j) (type_below s j l) (omega (arith, type_start s j l)) (omega (arith, type_end s j l))

    overall_type : slot_type s (overall_slot s j) ≡ type_of s j
    overall_type = let t = type_of s j in slotted s t (overall_slot s j) (type_below s j l) (omega arith) (omega (arith, start_next s t))

    -- both are of the element's type
    pub own_kind : (slot_at s (own_slot s j)).kind ≡ kind_at s j
    unfolding slot_at kind_at
    own_kind = ap (λ (t : ℕ). kind_of (type_code s t)) own_type

    pub overall_kind : (slot_at s (overall_slot s j)).kind ≡ kind_at s j
    unfolding slot_at kind_at
    overall_kind = ap (λ (t : ℕ). kind_of (type_code s t)) overall_type

    -- its own is for the element alone
    pub own_single : (slot_at s (own_slot s j)).overall ≡ false
    unfolding slot_at is_overall start_of
    own_single = rw own_type (ne_eqb (own_slot s j) (before s (type_of s j) + type_of s j) (λ e. omega (arith, type_start s j l, e)))

    pub own_first : (slot_at s (own_slot s j)).first ≡ j
    unfolding slot_at
    own_first = pick_no _ _ _ own_single ∙ rw own_type (omega arith)

    -- and on the page
    module _ (w : front_formed s ≡ true) where
      pub own_there : own_slot s j < slots_of s
      unfolding slots_of
      own_there = omega (arith, type_named s j w l)

      pub overall_there : overall_slot s j < slots_of s
      unfolding slots_of start_of
      overall_there = omega (arith, type_start s j l, type_named s j w l)

-- what is read of a shelf and a page for it: the front, and of an element its own bytes and its two slots, also once others were acted on
module _ (s p : List ℕ) (h : HasPage s p) where
  pub front_there : HasFront s
  front_there = shelf_there s h.0

  pub element_there : (x : List ℕ) → front x ≡ front s → length x ≡ length s → (j : ℕ) → j < elements_of s → HasElement x j × HasSlots p (places_of x j)
  unfolding places_of
  element_there x e m j l =
      let f = front_there.0 in
      let a = places_alike s x e j l in
      (omega (arith, room s j h.0 l), (omega (arith, ap (λ (q : Places). q.overallplace) a, overall_there s j l f), omega (arith, ap (λ (q : Places). q.ownplace) a, own_there s j l f)))

-- and what is read for a slot
pub slot_has : (s : List ℕ) → well_formed s ≡ true → (i : ℕ) → i < slots_of s → {at : Slot} → at ≡ slot_at s i → HasElements s at
slot_has s w i l e =
    let f = front_formed_lem s w in
    rw e (omega (arith, length-formed s w, end_there s f i l), λ o. first_within s f i l o)

-- the same from the answer of the tests before a page's own
module _ (s p : List ℕ) (code : ℕ) {a : Answer} (h : a ≡ page_tested s p code) (u : a ≡ Ok tt) where
  pub page_has : HasPage s p
  page_has = tested_has s p code (sym h ∙ u)

  pub page_front : HasFront s
  page_front = front_there s p page_has
