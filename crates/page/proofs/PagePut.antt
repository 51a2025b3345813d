-- A page whose header and slots are put one after the other. Assumes nothing.
use mathlib.Core.Path.{◌≡◌, refl, sym, ap, ◌∙◌}
use mathlib.Core.List.{List, [], ◌++◌, append-nil}
use Prim.Native.Nat.{ℕ, ◌<◌, ◌≤◌}
use native.Mathlib.Omega.{arith}
use lib.ListN.{length}
use Rattle.bits.specs.Places.{four_at}
use Rattle.bits.specs.Rows.{joined, bytes_at}
use Rattle.bits.proofs.Rows.{EndToEnd, rows_end, row_back, four_bytes}
use Rattle.bits.proofs.RowsPut.{fours_rows, rows_behind}
use Rattle.refusals.specs.Outcomes.{placed}
use Rattle.page.specs.Slots.{slot_place, slots_put}
use Rattle.page.specs.Header.{header, head_put}
use Rattle.page.proofs.HeaderTests.{head_put_lem}

pub length-header : (c : List ℕ) (code own n : ℕ) → length (header c code own n) ≡ 8
unfolding header
length-header c code own n = refl

module _ (f : ℕ → List ℕ) (h : (i : ℕ) → length (f i) ≡ 4) where
  slot_rows : EndToEnd slot_place (λ i. 4) f
  slot_rows i = (h i, omega arith)

  pub length-page : (c : List ℕ) (code own n : ℕ) → length (header c code own n ++ joined f n) ≡ slot_place n
  length-page c code own n = rows_end slot_place (λ i. 4) f slot_rows (header c code own n) (length-header c code own n) n

  -- a page put whole into an output buffer that holds it, from what the calls say
  pub page_placed : (c out : List ℕ) (code own n : ℕ) {a b : List ℕ} → slot_place n ≤ length out → a ≡ head_put c out code own n → b ≡ slots_put f a n
      → b ≡ placed (header c code own n ++ joined f n) out
  page_placed c out code own n l u v =
      let g = header c code own n in
      v
      ∙ ap (λ (o : List ℕ). slots_put f o n) (u ∙ head_put_lem c out code own n (omega arith))
      ∙ fours_rows slot_place f (placed g out) h n
      ∙ rows_behind slot_place (λ i. 4) f slot_rows g (length-header c code own n) out n l

  -- what stands in slot i of a page
  pub slot_read : (c : List ℕ) (code own n i : ℕ) → i < n → four_at (header c code own n ++ joined f n) (slot_place i) ≡ f i
  slot_read c code own n i l =
      let g = header c code own n in
      sym (four_bytes (g ++ joined f n) (slot_place i))
      ∙ ap (λ (r : List ℕ). bytes_at r (slot_place i) 4) (sym (append-nil (g ++ joined f n)))
      ∙ row_back slot_place (λ i. 4) f slot_rows g (length-header c code own n) n [] i l
