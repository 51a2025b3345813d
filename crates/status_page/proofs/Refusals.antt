-- What writing a status page leaves. Assumes nothing.
use mathlib.Core.Path.{◌≡◌, refl, sym, ap, ◌∙◌}
use mathlib.Core.Bool.{Bool, true, false}
use mathlib.Core.List.{List, [], ◌∷◌}
use Prim.Native.Nat.{ℕ, ◌≤◌}
use lib.ListN.{length, get_or}
use Rattle.bits.specs.Choice.{pick}
use Rattle.refusals.specs.Outcomes.{placed}
use Rattle.element.specs.Status.{status_bytes}
use Rattle.element.proofs.TypeStatus.{bytes_length}
use Rattle.page.specs.declared.slots.Slot.{Slot}
use Rattle.page.specs.Slots.{slots_of, slot_at, slot_place, slots_put}
use Rattle.page.specs.Header as pages
use Rattle.page.proofs.PagePut.{page_placed, length-page}
use Rattle.shelf_status.specs.declared.PageBits.{PageBits}
use Rattle.shelf_status.specs.ShelfStatus.{page_bits, bits_byte}
use Rattle.status_page.specs.Page.{slot_bytes, slot_row, page_with, status_page, shown_in}

pub slot_length : (at : Slot) (x : List ℕ) → length (slot_bytes at x) ≡ 4
unfolding slot_bytes
slot_length at x = go at.overall
  where
    go : (t : Bool) → length (pick t (get_or x 0 0 ∷ 0 ∷ 0 ∷ 0 ∷ []) (status_bytes at.kind x)) ≡ 4
    go true = refl
    go false = bytes_length at.kind x

pub row_length : (c : List ℕ) (f : ℕ → List ℕ) (i : ℕ) → length (slot_row c f i) ≡ 4
row_length c f i = slot_length (slot_at c i) (f i)

-- a page, and the page put into an output buffer that holds it
module _ (c : List ℕ) (b : PageBits) (f : ℕ → List ℕ) (n : ℕ) (e : n ≡ slots_of c) where
  pub with_length : slot_place n ≡ length (page_with c b f)
  unfolding page_with
  with_length = rw (← e) (sym (length-page (slot_row c f) (row_length c f) c 0x02 (bits_byte b) n))

  pub with_placed : (out : List ℕ) {own : ℕ} {x y : List ℕ} → slot_place n ≤ length out → own ≡ bits_byte b → x ≡ pages.head_put c out 0x02 own n → y ≡ slots_put (slot_row c f) x n
      → y ≡ placed (page_with c b f) out
  unfolding page_with
  with_placed out l o u v =
      rw (← e) (page_placed (slot_row c f) (row_length c f) c out 0x02 (bits_byte b) n l (u ∙ ap (λ x. pages.head_put c out 0x02 x n) o) v)

-- the page of a shelf
module _ (s : List ℕ) {n : ℕ} (e : n ≡ slots_of s) where
  pub page_length : {k : ℕ} → k ≡ slot_place n → k ≡ length (status_page s)
  unfolding status_page
  page_length q = q ∙ with_length s (page_bits s) (shown_in s) n e

  pub shelf_placed : (out : List ℕ) {b : PageBits} {own : ℕ} {x y : List ℕ} → slot_place n ≤ length out → b ≡ page_bits s → own ≡ bits_byte b
      → x ≡ pages.head_put s out 0x02 own n → y ≡ slots_put (slot_row s (shown_in s)) x n → y ≡ placed (status_page s) out
  unfolding status_page
  shelf_placed out l q o u v = with_placed s (page_bits s) (shown_in s) n e out l (o ∙ ap bits_byte q) u v
