-- What each step of writing threshold rows comes to, from what the calls say. Assumes nothing.
use mathlib.Core.Path.{◌≡◌, ◌∙◌}
use mathlib.Core.List.{List, [], ◌∷◌}
use Prim.Native.Nat.{ℕ}
use Rattle.bits.specs.Choice.{pick}
use Rattle.shelf.specs.Elements.{thresholds_at}
use Rattle.page.specs.declared.slots.Slot.{Slot}
use Rattle.page.specs.Slots.{slot_at}
use Rattle.threshold_page_in.specs.Page.{threshold_row}

-- the four bytes that a shelf gives for slot i
pub row_is : (s : List ℕ) (i : ℕ) {at : Slot} {e : List ℕ} → at ≡ slot_at s i
    → e ≡ pick at.overall (0 ∷ 0 ∷ 0 ∷ 0 ∷ []) (thresholds_at s at.first) → e ≡ threshold_row s i
unfolding threshold_row
row_is s i q h = h ∙ rw q
