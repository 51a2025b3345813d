-- The page that is made is the best one, and there is no other. Assumes nothing.
use mathlib.Core.Path.{◌≡◌}
use mathlib.Core.Bool.{true}
use mathlib.Core.List.{List}
use Prim.Native.Nat.{ℕ, ◌*◌, ◌<◌}
use native.Mathlib.Omega.{arith}
use lib.ListN.{length}
use Rattle.bits.specs.Numbers.{Bytes}
use Rattle.bits.specs.Rows.{joined}
use Rattle.bits.proofs.Each.{each_append, each_joined, four_small}
use Rattle.build_order.proofs.ByCount.{after_same}
use Rattle.shelf.specs.Types.{elements_of}
use Rattle.shelf_formed.specs.Formed.{well_formed}
use Rattle.page.specs.Slots.{slots_of}
use Rattle.page.specs.Header.{header}
use Rattle.build_page.specs.Promise.{selects_on, Best}
use Rattle.build_page.specs.Page.{row_for, control_page}
use Rattle.build_page.proofs.FirstSlots.{row_for_row}
use Rattle.build_page.proofs.FirstPage.{made_first}
use Rattle.build_page.proofs.PageReaches.{Can, made_valid, made_brings}

header_bytes : (s : List ℕ) (n : ℕ) → Bytes s → Bytes (header s 0x02 0 n)
unfolding header
header_bytes s n h = (omega arith, (omega arith, (omega arith, (omega arith, four_small s h 0))))

pub made_best : (s w : List ℕ) (f : well_formed s ≡ true) → Bytes s → Bytes w → length w ≡ 4 * elements_of s → ((j : ℕ) → j < elements_of s → Can s w f j)
    → Best s w (control_page s w)
made_best s w f hs hw e can = ((made_bytes, made_valid s w f, made_brings s w f hw can e), (λ q r. made_first s w q hs r))
  where
    made_bytes : Bytes (control_page s w)
    made_bytes =
        unfold control_page in
        each_append (λ b. b < 256) (header s 0x02 0 (slots_of s)) (joined (row_for s w) (slots_of s)) (header_bytes s (slots_of s) hs) (each_joined (λ b. b < 256) (row_for s w) (slots_of s) (λ i l. (row_for_row s w i).1))

-- two best pages are one
pub only_one : (s w p q : List ℕ) → Best s w p → Best s w q → p ≡ q
only_one s w p q h l = (after_same (selects_on s p) (selects_on s q) p q (h.1 q l.0) (l.1 p h.0)).1
