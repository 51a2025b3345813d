-- The page that is made comes before every other that reaches the wish, header and all. Assumes nothing.
use Rattle.std.specs.Prelude.{Ok}
use mathlib.Core.Path.{◌≡◌, refl, sym, ap, subst, ◌∙◌}
use mathlib.Core.List.{List, ◌∷◌, ◌++◌}
use mathlib.Core.Logic.{inl, inr}
use Prim.Native.Nat.{ℕ, zero, suc, ◌-◌, ◌<◌}
use native.Mathlib.Omega.{arith}
use lib.ListN.{get_or, take}
use lib.Seq.{take-length}
use Rattle.bits.specs.Choice.{sum_below}
use Rattle.bits.specs.Numbers.{bytes, Bytes}
use Rattle.bits.specs.Places.{four_at}
use Rattle.bits.specs.Rows.{joined}
use Rattle.bits.proofs.Rows.{fours}
use Rattle.bits.proofs.Sums.{sum_same}
use Rattle.build_order.specs.Order.{InOrder, NotAfter}
use Rattle.build_order.proofs.Dictionary.{order_refl, order_append}
use Rattle.refusals.proofs.AcceptedTests.{held_both}
use Rattle.build_element.specs.Parts.{selects}
use Rattle.shelf.specs.Types.{types_of}
use Rattle.shelf_formed.proofs.ElementTypes.{front_formed_lem}
use Rattle.page.specs.Slots.{slots_of, slot_place}
use Rattle.page.specs.Header.{shelf_tested, headed, page_tested, header}
use Rattle.page.proofs.PagePut.{slot_read}
use Rattle.page.proofs.HeaderBothWays.{length-tested, header_again}
use Rattle.control_page.proofs.ValidPage.{valid_formed, valid_headed}
use Rattle.build_page.specs.Promise.{selects_on, Reaching}
use Rattle.build_page.specs.Page.{row_for, selects_for, control_page}
use Rattle.build_page.proofs.SlotsByType.{slots_end}
use Rattle.build_page.proofs.FirstSlots.{row_for_length, upto}

-- what the page that is made has in slot i
pub made_row : (s w : List ℕ) (i : ℕ) → i < slots_of s → four_at (control_page s w) (slot_place i) ≡ row_for s w i
unfolding control_page
made_row s w i l = slot_read (row_for s w) (row_for_length s w) s 0x02 0 (slots_of s) i l

pub made_selects : (s w : List ℕ) → selects_on s (control_page s w) ≡ selects_for s w (slots_of s)
made_selects s w = sum_same _ _ (slots_of s) (λ i l. ap selects (made_row s w i l))

-- pages whose headers differ in byte 1 alone
headers : (h x y : List ℕ) (own : ℕ) → InOrder x y → InOrder (2 ∷ 0 ∷ (h ++ x)) (2 ∷ own ∷ (h ++ y))
headers h x y zero l = inr (refl, inr (refl, order_append h h x y refl (order_refl h) l))
headers h x y (suc own) l = inr (refl, inl (omega arith))

accepted_head : (s q : List ℕ) → page_tested s q 0x02 ≡ Ok tt → headed s q 0x02 (slots_of s) ≡ Ok tt
unfolding page_tested
accepted_head s q a = (held_both (shelf_tested s) (headed s q 0x02 (slots_of s)) a).1

module _ (s w q : List ℕ) (hs : Bytes s) (r : Reaching s w q) where
  abbrev n : ℕ
  n = slots_of s

  abbrev theirs : ℕ → List ℕ
  theirs i = four_at q (slot_place i)

  is_headed : headed s q 0x02 n ≡ Ok tt
  is_headed = accepted_head s q (valid_headed s q r.1)

  whole : q ≡ header s 0x02 (get_or q 1 0) n ++ joined theirs n
  whole =
      let l = length-tested s q 0x02 n is_headed in
      sym (take-length q)
      ∙ ap (λ (x : ℕ). take x q) l
      ∙ fours q 8 n (omega (arith, l))
      ∙ ap (λ (x : List ℕ). x ++ joined theirs n) (sym (header_again s q 0x02 n is_headed (get_or q 1 0) hs r.0 refl))

  rows : NotAfter (sum_below (λ i. selects (row_for s w i)) n) (joined (row_for s w) n) (sum_below (λ i. selects (theirs i)) n) (joined theirs n)
  rows =
      let f = front_formed_lem s (valid_formed s q r.1) in
      rw (← (slots_end s f)) (upto s w q r.0 r.1 r.2 (types_of s) (omega arith))

  ordered : InOrder (joined (row_for s w) n) (joined theirs n) → InOrder (control_page s w) (header s 0x02 (get_or q 1 0) n ++ joined theirs n)
  unfolding control_page header
  ordered h = headers (bytes 2 (slot_place n - 4) ++ four_at s 0) (joined (row_for s w) n) (joined theirs n) (get_or q 1 0) h

  pub made_first : NotAfter (selects_on s (control_page s w)) (control_page s w) (selects_on s q) q
  made_first = rw (made_selects s w) (go rows)
    where
      go : NotAfter (sum_below (λ i. selects (row_for s w i)) n) (joined (row_for s w) n) (sum_below (λ i. selects (theirs i)) n) (joined theirs n)
          → NotAfter (sum_below (λ i. selects (row_for s w i)) n) (control_page s w) (selects_on s q) q
      go (inl h) = inl h
      go (inr h) = inr (h.0, subst (InOrder (control_page s w)) (sym whole) (ordered h.1))
