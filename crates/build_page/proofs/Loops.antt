-- What one turn of each loop of the builder does, and the overall element that stands at each slot. Assumes nothing.
use mathlib.Core.Path.{◌≡◌, sym, ap, ◌∙◌}
use mathlib.Core.Bool.{Bool, true, false}
use mathlib.Core.List.{List}
use Prim.Native.Nat.{ℕ, zero, suc, ◌+◌, ◌*◌, ◌-◌, ◌/◌, ◌<◌, ◌≤◌}
use native.Mathlib.Numerals.{add-one}
use native.Mathlib.Omega.{arith}
use mir.Val.{Fits}
use mir.Syntax.{w8}
use lib.Dec.{ltb}
use lib.ListN.{length, get_or}
use borrow.Author.Tests.{eqb-true, eqb-false, eq-eqb, ltb-true, ltb-false}
use Rattle.bits.specs.Numbers.{big, bytes}
use Rattle.bits.specs.Places.{four_at}
use Rattle.bits.proofs.Each.{byte_small}
use Rattle.bits.proofs.Ends.{part_none}
use Rattle.bits.proofs.Masks.{known_four}
use Rattle.bits.proofs.Widths.{bytes_big}
use Rattle.bits.proofs.Rows.{as_four}
use Rattle.bits.specs.Choice.{pick}
use Rattle.bits.proofs.Logic.{by_case, pick_yes, pick_no}
use Rattle.element.specs.Settings.{settings_formed}
use Rattle.element_control.specs.Control.{control_of}
use Rattle.build_element.specs.Wishes.{silent, in_reach, one}
use Rattle.build_element.specs.Parts.{selects}
use Rattle.build_element.proofs.RequestBytes.{select_counts}
use Rattle.shelf.specs.Limits.{most_types}
use Rattle.shelf.specs.declared.types.Run.{Run}
use Rattle.shelf.specs.Types.{type_count, before, elements_of, run_at}
use Rattle.shelf.proofs.TypeRuns.{run_kind}
use Rattle.shelf_formed.specs.Formed.{well_formed}
use Rattle.shelf_formed.proofs.ElementTypes.{front_formed_lem}
use Rattle.shelf.specs.Elements.{settings_at}
use Rattle.shelf.specs.SettingsList.{settings_in}
use Rattle.page.specs.declared.slots.Slot.{Slot}
use Rattle.page.specs.declared.slots.SlotRun.{SlotRun}
use Rattle.page.specs.Slots.{slots_of, start_of, slot_type, is_overall, slot_at, slot_run, slot_in}
use Rattle.page.proofs.SlotsOfFront.{end_there}
use Rattle.page.proofs.SlotWalk.{slot_walked}
use Rattle.page.proofs.ElementSlots.{slot_has}
use Rattle.page.proofs.SlotsBefore.{start_up}
use Rattle.page.proofs.SlotTypes.{start_below, type_ends, slotted}
use Rattle.build_overall.specs.Choice.{HasWishes, overall_of}
use Rattle.build_page.specs.Promise.{may_be}
use Rattle.build_page.specs.Page.{overall_in, row_under, row_for, selects_for, reachable}
use Rattle.build_page.proofs.FirstSlots.{row_for_row}

-- the tests of a wish, record by record
module _ (s w : List ℕ) (j : ℕ) {r : Run} (q : r ≡ run_at s j) where
  pub formed_at : {x : List ℕ} {d : Bool} → x ≡ settings_in w j → d ≡ settings_formed r.kind x → may_be s w j ≡ d
  formed_at p h = rw (h, run_kind s j q, p)

  pub reach_at : {e x : List ℕ} {d : Bool} → e ≡ settings_at s j → x ≡ settings_in w j → d ≡ in_reach r.kind e x → reachable s w j ≡ d
  unfolding reachable
  reach_at u p h = rw (h, run_kind s j q, u, p)

-- the four bytes of a slot
module _ (s w : List ℕ) (at : Slot) (o : List ℕ) where
  pub row_overall : {p : List ℕ} → at.overall ≡ true → p ≡ o → p ≡ row_under s w at o
  unfolding row_under
  row_overall t h = h ∙ sym (pick_yes _ _ _ t)

  pub row_own : {e x y p : List ℕ} → at.overall ≡ false → p ≡ o → e ≡ settings_at s at.first → x ≡ settings_in w at.first
      → y ≡ one at.kind (control_of at.kind p) e x → y ≡ row_under s w at o
  unfolding row_under
  row_own t hp he hx h = h ∙ rw (t, hp, he, hx)

-- the overall element, as the number that its bytes say
module _ (s w : List ℕ) (at : Slot) (m : ℕ) where
  pub number_found : {o : List ℕ} {n : ℕ} → at.overall ≡ true → length o ≡ 4 → Fits w8 (get_or o 0 0) → Fits w8 (get_or o 1 0) → Fits w8 (get_or o 2 0) → Fits w8 (get_or o 3 0)
      → o ≡ overall_of s w at → n ≡ big (four_at o 0) → bytes 4 n ≡ pick at.overall (overall_of s w at) (bytes 4 m)
  number_found {o} t l a b c d h e =
      ap (bytes 4) e
      ∙ bytes_big (four_at o 0) (known_four o a b c d)
      ∙ sym (as_four o l)
      ∙ h
      ∙ sym (pick_yes _ _ _ t)

  pub number_stands : at.overall ≡ false → bytes 4 m ≡ pick at.overall (overall_of s w at) (bytes 4 m)
  number_stands t = sym (pick_no _ _ _ t)

module _ (s : List ℕ) where
  -- past the last type
  past : (i : ℕ) → start_of s most_types ≤ i → slot_type s i ≡ most_types
  unfolding slot_type
  past i l = part_none (start_of s) i most_types (start_up s) l

  -- only at an overall element does the type change
  same_type : (i : ℕ) → is_overall s (suc i) ≡ false → slot_type s i ≡ slot_type s (suc i)
  unfolding is_overall
  same_type i h =
      let u = slot_type s (suc i) in
      let b = start_below s (suc i) in
      let d = eqb-false (suc i) (start_of s u) h in
      by_case (ltb u most_types) (λ t. within (ltb-true u most_types t) (omega (arith, b, d))) (λ t. behind (ltb-false u most_types t) (omega (arith, b, d)))
    where
      within : slot_type s (suc i) < most_types → start_of s (slot_type s (suc i)) ≤ i → slot_type s i ≡ slot_type s (suc i)
      within l g =
          let u = slot_type s (suc i) in
          let e = type_ends s (suc i) l in
          slotted s u i l g (omega (arith, e))

      behind : most_types ≤ slot_type s (suc i) → start_of s (slot_type s (suc i)) ≤ i → slot_type s i ≡ slot_type s (suc i)
      behind l g =
          let a = start_up s most_types (slot_type s (suc i)) l in
          past i (omega arith) ∙ sym (past (suc i) (omega arith))

  -- a page starts with one
  starts : is_overall s 0 ≡ true
  unfolding is_overall
  starts = eq-eqb 0 (start_of s (slot_type s 0)) (omega (arith, start_below s 0))

  module _ (w : List ℕ) where
    -- the overall element that stands before slot i, slot by slot
    abbrev pub standing : ℕ → List ℕ
    standing zero = silent
    standing (suc i) = pick (slot_at s i).overall (overall_of s w (slot_at s i)) (standing i)

    overall_here : (i : ℕ) → is_overall s i ≡ true → overall_of s w (slot_at s i) ≡ overall_in s w (slot_type s i)
    unfolding overall_of overall_in slot_at is_overall start_of
    overall_here i h =
        let t = slot_type s i in
        let e = eqb-true i (start_of s t) h in
        let a : i - t ≡ before s t = omega (arith, e) in
        let b : before s t + type_count s t - before s t ≡ type_count s t = omega arith in
        rw (h, a, b)

    stands : (i : ℕ) → standing (suc i) ≡ overall_in s w (slot_type s i)
    unfolding slot_at
    stands zero = pick_yes _ _ _ starts ∙ overall_here 0 starts
    stands (suc i) =
        let h = stands i in
        by_case (is_overall s (suc i)) (λ t. pick_yes _ _ _ t ∙ overall_here (suc i) t)
        (λ t. pick_no _ _ _ t ∙ h ∙ ap (overall_in s w) (same_type i t))

    -- what a turn counts
    row_counts : (i : ℕ) {y : List ℕ} → y ≡ row_for s w i → (get_or y 0 0 / 128 ≡ selects (row_for s w i)) × (get_or y 0 0 / 128 ≤ 1)
    row_counts i {y} h =
        let l = byte_small (row_for s w i) (row_for_row s w i).1 0 in
        rw h (select_counts (row_for s w i) l, omega arith)

    pub count_next : (i : ℕ) {n : ℕ} {y : List ℕ} → n ≡ selects_for s w i → y ≡ row_for s w i → n + get_or y 0 0 / 128 ≡ selects_for s w (i + 1)
    count_next i h g = rw (add-one i) (omega (arith, h, (row_counts i g).0))

    -- and puts
    pub row_next : (i : ℕ) {r : SlotRun} {at : Slot} {o p y : List ℕ} → r ≡ slot_run s i → at ≡ slot_in r i → o ≡ standing i
        → p ≡ pick at.overall (overall_of s w at) o → y ≡ row_under s w at p
        → (p ≡ standing (i + 1)) × (y ≡ row_for s w i) × (get_or y 0 0 / 128 ≤ 1)
    unfolding row_for
    row_next i {p = p} {y = y} hr hi ho hp hy =
        let ha = slot_walked s i hr hi in
        let q : p ≡ standing (suc i) = hp ∙ rw (ha, ho) in
        let e : y ≡ row_for s w i = hy ∙ rw ha (ap (row_under s w (slot_at s i)) (q ∙ stands i)) in
        (rw (add-one i) q, e, (row_counts i e).1)

-- what is read for a slot: the elements that it is for, stored and wanted
pub slot_wishes : (s w : List ℕ) → well_formed s ≡ true → 4 * elements_of s ≤ length w → (i : ℕ) → i < slots_of s → {at : Slot} → at ≡ slot_at s i
    → HasWishes s w at
slot_wishes s w f m i l {at} e =
    let b : at.end ≡ (slot_at s i).end = ap (λ (x : Slot). x.end) e in
    (slot_has s f i l e, omega (arith, b, m, end_there s (front_formed_lem s f) i l))
