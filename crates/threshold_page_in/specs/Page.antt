-- The Threshold In page of a shelf. Assumes nothing.
use Rattle.std.specs.Prelude.{List, [], ◌∷◌, ◌++◌, ℕ}
use Rattle.bits.specs.Choice.{pick}
use Rattle.bits.specs.Rows.{joined}
use Rattle.shelf.specs.Elements.{thresholds_at}
use Rattle.page.specs.declared.slots.Slot.{Slot}
use Rattle.page.specs.Slots.{slots_of, slot_at}
use Rattle.page.specs.Header.{header}

-- overall elements are zero, individual elements are the stored bytes
unfoldable pub threshold_row : List ℕ → ℕ → List ℕ
threshold_row s i =
    let at : Slot = slot_at s i in
    pick at.overall (0 ∷ 0 ∷ 0 ∷ 0 ∷ []) (thresholds_at s at.first)

-- byte 1 is 0
unfoldable pub threshold_page : List ℕ → List ℕ
threshold_page s = header s 0x05 0 (slots_of s) ++ joined (threshold_row s) (slots_of s)
