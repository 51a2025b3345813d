-- The status page. Assumes nothing.
use Rattle.std.specs.Prelude.{List, [], ◌∷◌, ◌++◌, ℕ, get_or}
use Rattle.bits.specs.Choice.{pick}
use Rattle.bits.specs.Rows.{joined}
use Rattle.element.specs.Status.{status_bytes, code_alone}
use Rattle.page.specs.declared.slots.Slot.{Slot}
use Rattle.page.specs.Slots.{slots_of, slot_at}
use Rattle.page.specs.Header.{header}
use Rattle.shelf_status.specs.declared.PageBits.{PageBits}
use Rattle.shelf_status.specs.ShelfStatus.{shown_at, worst, page_bits, bits_byte}

-- the four bytes of a slot that say an entry; an overall element has its code alone
unfoldable pub slot_bytes : Slot → List ℕ → List ℕ
slot_bytes at x = pick at.overall (get_or x 0 0 ∷ 0 ∷ 0 ∷ 0 ∷ []) (status_bytes at.kind x)

abbrev pub slot_row : List ℕ → (ℕ → List ℕ) → ℕ → List ℕ
slot_row c f i = slot_bytes (slot_at c i) (f i)

-- the page with these bits in byte 1 whose slot i says the entry f i
unfoldable pub page_with : List ℕ → PageBits → (ℕ → List ℕ) → List ℕ
page_with c b f = header c 0x02 (bits_byte b) (slots_of c) ++ joined (slot_row c f) (slots_of c)

-- what slot i shows of a shelf: a type's overall element shows the worst code of its elements
unfoldable pub shown_in : List ℕ → ℕ → List ℕ
shown_in s i =
    let at : Slot = slot_at s i in
    pick at.overall (code_alone (worst s at.kind at.first at.end)) (shown_at s at.kind at.first)

-- the page of a shelf
unfoldable pub status_page : List ℕ → List ℕ
status_page s = page_with s (page_bits s) (shown_in s)
