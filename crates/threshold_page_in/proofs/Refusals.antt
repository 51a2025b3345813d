-- What writing a Threshold In page leaves. Assumes nothing.
use mathlib.Core.Path.{◌≡◌, refl, sym, ◌∙◌}
use mathlib.Core.Bool.{Bool, true, false}
use mathlib.Core.List.{List, [], ◌∷◌}
use Prim.Native.Nat.{ℕ, ◌≤◌}
use lib.ListN.{length}
use Rattle.bits.specs.Choice.{pick}
use Rattle.refusals.specs.Outcomes.{placed}
use Rattle.shelf.specs.Elements.{thresholds_at}
use Rattle.page.specs.Slots.{slots_of, slot_at, slot_place, slots_put}
use Rattle.page.specs.Header as pages
use Rattle.page.proofs.PagePut.{length-page, page_placed}
use Rattle.threshold_page_in.specs.Page.{threshold_row, threshold_page}

pub row_length : (s : List ℕ) (i : ℕ) → length (threshold_row s i) ≡ 4
unfolding threshold_row thresholds_at
row_length s i = go (slot_at s i).overall
  where
    go : (t : Bool) → length (pick t (0 ∷ 0 ∷ 0 ∷ 0 ∷ []) (thresholds_at s (slot_at s i).first)) ≡ 4
    go true = refl
    go false = refl

-- the page of a shelf
module _ (s : List ℕ) {n : ℕ} (e : n ≡ slots_of s) where
  pub shelf_placed : (out : List ℕ) {x y : List ℕ} → slot_place n ≤ length out → x ≡ pages.head_put s out 0x05 0 n → y ≡ slots_put (threshold_row s) x n
      → y ≡ placed (threshold_page s) out
  unfolding threshold_page
  shelf_placed out l u v = rw (← e) (page_placed (threshold_row s) (row_length s) s out 0x05 0 n l u v)

  pub page_length : {k : ℕ} → k ≡ slot_place n → k ≡ length (threshold_page s)
  unfolding threshold_page
  page_length q = rw (← e) (q ∙ sym (length-page (threshold_row s) (row_length s) s 0x05 0 n))
