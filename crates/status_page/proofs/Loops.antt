-- What each step of writing a status page comes to, from what the calls say. Assumes nothing.
use mathlib.Core.Path.{◌≡◌, ◌∙◌}
use mathlib.Core.Bool.{true, false}
use mathlib.Core.List.{List, [], ◌∷◌}
use Prim.Native.Nat.{ℕ}
use Rattle.bits.specs.Choice.{pick}
use Rattle.element.specs.Status.{code_alone, status_bytes}
use Rattle.page.specs.declared.slots.Slot.{Slot}
use Rattle.page.specs.Slots.{slot_at}
use Rattle.shelf_status.specs.ShelfStatus.{shown_at, worst}
use Rattle.status_page.specs.Page.{slot_bytes, slot_row, shown_in}

-- four bytes of a slot of the shelf's page, overall or of an element, from what the calls say
module _ (s : List ℕ) (at : Slot) where
  pub row_overall : {n : ℕ} → at.overall ≡ true → n ≡ worst s at.kind at.first at.end
      → n ∷ 0 ∷ 0 ∷ 0 ∷ [] ≡ slot_bytes at (pick at.overall (code_alone (worst s at.kind at.first at.end)) (shown_at s at.kind at.first))
  unfolding slot_bytes
  row_overall o h = rw (h, o)

  pub row_element : {e : List ℕ} → at.overall ≡ false → e ≡ status_bytes at.kind (shown_at s at.kind at.first)
      → e ≡ slot_bytes at (pick at.overall (code_alone (worst s at.kind at.first at.end)) (shown_at s at.kind at.first))
  unfolding slot_bytes
  row_element o h = rw o h

pub shelf_row : (s : List ℕ) (i : ℕ) {at : Slot} {e : List ℕ} → at ≡ slot_at s i
    → e ≡ slot_bytes at (pick at.overall (code_alone (worst s at.kind at.first at.end)) (shown_at s at.kind at.first)) → e ≡ slot_row s (shown_in s) i
unfolding shown_in
shelf_row s i p h = h ∙ rw p

-- four bytes of a slot
pub row_is : (c : List ℕ) (f : ℕ → List ℕ) (i : ℕ) {at : Slot} {x : List ℕ} {e : List ℕ} → at ≡ slot_at c i → x ≡ f i → e ≡ slot_bytes at x → e ≡ slot_row c f i
row_is c f i p q h = h ∙ rw (p, q)
