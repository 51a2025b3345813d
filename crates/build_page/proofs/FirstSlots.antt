-- Of the control pages that bring a shelf to a wish, none comes before the one that is made. Assumes nothing.
use mathlib.Core.Path.{◌≡◌, refl, sym, ap, ap₂, ◌∙◌}
use mathlib.Core.Bool.{Bool, true, false}
use mathlib.Core.List.{List, [], ◌++◌}
use mathlib.Core.Logic.{◌⊎◌, inl, inr}
use Prim.Native.Nat.{ℕ, zero, suc, ◌+◌, ◌*◌, ◌<◌, ◌≤◌}
use native.Mathlib.Nat.{add-zero}
use native.Mathlib.Numerals.{add-one}
use native.Mathlib.Omega.{arith}
use lib.ListN.{length}
use borrow.Author.Tests.{ltb-false}
use Rattle.bits.specs.Choice.{pick, sum_below}
use Rattle.bits.specs.Numbers.{Bytes}
use Rattle.bits.specs.Places.{four_at}
use Rattle.bits.specs.Rows.{joined}
use Rattle.bits.proofs.Logic.{first_small}
use Rattle.bits.proofs.Each.{four_small}
use Rattle.bits.proofs.Rows.{joined_four, joined_same, joined_split, length-joined}
use Rattle.bits.proofs.Sums.{sum_same, sum_split}
use Rattle.build_order.specs.Order.{NotAfter}
use Rattle.build_order.specs.Search.{cost, best}
use Rattle.build_order.proofs.BestRow.{best_row}
use Rattle.build_order.proofs.ByCount.{after_refl, after_append}
use Rattle.element.specs.declared.types.Kind.{Kind}
use Rattle.element_control.specs.Control.{offending, control_of, chosen, settled}
use Rattle.build_element.specs.Wishes.{one}
use Rattle.build_element.specs.Parts.{selects, under, part}
use Rattle.build_element.proofs.FirstElement.{Row, one_row}
use Rattle.build_element.proofs.BestPart.{search_facts, part_selects, same_overall, part_first}
use Rattle.shelf.specs.Types.{types_of, type_count, before, elements_of}
use Rattle.shelf.specs.Elements.{settings_at}
use Rattle.shelf.specs.SettingsList.{settings_in}
use Rattle.shelf_formed.specs.Formed.{front_formed}
use Rattle.shelf_formed.proofs.ElementTypes.{front_formed_lem}
use Rattle.page.specs.Slots.{slots_of, start_of, slot_type, slot_at, slot_place}
use Rattle.page.specs.Places.{places_of}
use Rattle.page.proofs.SlotsBefore.{start_none, start_next, start_up}
use Rattle.control_page.specs.Tests.{valid}
use Rattle.control_page.proofs.FirstOffence.{slot_offending}
use Rattle.control_page.specs.Brought.{settings_after, brought_to}
use Rattle.control_page.proofs.ValidPage.{valid_formed, valid_slot}
use Rattle.control_page.proofs.PageActs.{after_length}
use Rattle.build_page.specs.Page.{type_kind, stored_in, wanted_in, search_in, overall_in, row_under, row_for}
use Rattle.build_page.proofs.SlotsByType.{slots_end, overall_row, overall_kind, element_kind, element_row, element_here, own_slot_lem, overall_slot_lem, element_kind_at}

-- what is not after another counts no more, whatever the dictionary says
no_more : (m n : ℕ) {A : Type 0} → (m < n) ⊎ ((m ≡ n) × A) → m ≤ n
no_more m n (inl h) = omega arith
no_more m n (inr h) = omega (arith, h.0)

sum_one : (f : ℕ → ℕ) → sum_below f 1 ≡ f 0
sum_one f = omega arith

four_or_less : (k : Kind) (c : List ℕ) → offending k c ≤ 4
unfolding offending
four_or_less k c = first_small _ _ _ _

-- each slot of the page is a control element of its type
pub row_for_row : (s w : List ℕ) (i : ℕ) → Row (slot_at s i).kind (row_for s w i)
unfolding row_for row_under overall_in best slot_at
row_for_row s w i =
    let t = slot_type s i in
    let at = slot_at s i in
    let k = type_kind s t in
    let o = overall_in s w t in
    go at.overall o (one k (control_of k o) (settings_at s at.first) (settings_in w at.first))
    (best_row (search_in s w t) (Row k) (search_facts k (stored_in s t) (wanted_in s w t) (type_count s t)) (type_count s t))
    (one_row k (settings_at s at.first) (settings_in w at.first) (control_of k o))
  where
    go : (b : Bool) (x y : List ℕ) → Row (type_kind s (slot_type s i)) x → Row (type_kind s (slot_type s i)) y → Row (type_kind s (slot_type s i)) (pick b x y)
    go true x y h l = h
    go false x y h l = l

pub row_for_length : (s w : List ℕ) (i : ℕ) → length (row_for s w i) ≡ 4
row_for_length s w i = (row_for_row s w i).0

-- what is wanted of an element that a page brings there
pub brought : (s w q : List ℕ) → brought_to s q ≡ w → (j : ℕ) → j < elements_of s → settings_after s q j ≡ settings_in w j
unfolding brought_to
brought s w q b j l = sym (joined_four (settings_after s q) (after_length s q) (elements_of s) j l) ∙ ap (λ (x : List ℕ). four_at x (4 * j)) b

module _ (s w q : List ℕ) (hq : Bytes q) (v : valid s q ≡ true) (b : brought_to s q ≡ w) where
  f : front_formed s ≡ true
  f = front_formed_lem s (valid_formed s q v)

  -- the elements of the other page, and of the one that is made
  abbrev theirs : ℕ → List ℕ
  theirs i = four_at q (slot_place i)

  abbrev ours : ℕ → List ℕ
  ours i = row_for s w i

  slot_row_lem : (i : ℕ) → i < slots_of s → Row (slot_at s i).kind (theirs i)
  unfolding slot_offending
  slot_row_lem i l =
      let n = ltb-false (offending (slot_at s i).kind (theirs i)) 4 (valid_slot s q v i l) in
      (refl, four_small q hq (slot_place i), omega (arith, n, four_or_less (slot_at s i).kind (theirs i)))

  -- the slots of one type
  module _ (t : ℕ) (l : t < types_of s) where
    abbrev k : Kind
    k = type_kind s t

    abbrev m : ℕ
    m = type_count s t

    abbrev a : ℕ
    a = start_of s t

    in_page : a + (1 + m) ≤ slots_of s
    in_page =
        let u = start_up s (t + 1) (types_of s) (omega arith) in
        omega (arith, start_next s t, u, slots_end s f)

    element_acts : (i : ℕ) → i < m → settled k (chosen (control_of k (theirs a)) (control_of k (theirs (a + (1 + i))))) (stored_in s t i) ≡ wanted_in s w t i
    unfolding settings_after places_of
    element_acts i h =
        rw (element_kind_at s f t l i h, own_slot_lem s f t l i h, overall_slot_lem s f t l i h) at (brought s w q b (before s t + i) (element_here s f t l i h))

    overall_theirs : Row k (theirs a)
    overall_theirs = rw (overall_kind s f t l) at (slot_row_lem a (omega (arith, in_page)))

    elements_theirs : (i : ℕ) → i < m → Row k (theirs (a + (1 + i)))
    elements_theirs i h = rw (element_kind s f t l i h) at (slot_row_lem (a + (1 + i)) (omega (arith, in_page)))

    ours_part : NotAfter (cost (search_in s w t) (overall_in s w t)) (part k (stored_in s t) (wanted_in s w t) m (overall_in s w t))
        (selects (theirs a) + sum_below (λ i. selects (theirs (a + (1 + i)))) m) (theirs a ++ joined (λ i. theirs (a + (1 + i))) m)
    unfolding overall_in
    ours_part =
        part_first k (stored_in s t) (wanted_in s w t) m (theirs a) (λ i. theirs (a + (1 + i))) overall_theirs (λ i. refl) elements_theirs element_acts

    -- the same, as slots of the two pages
    slots_ours : joined (λ i. ours (a + i)) (1 + m) ≡ part k (stored_in s t) (wanted_in s w t) m (overall_in s w t)
    slots_ours =
        joined_split (λ i. ours (a + i)) 1 m
        ∙ ap₂ ◌++◌ (ap ours (add-zero a) ∙ overall_row s f t l w)
        (joined_same (λ i. ours (a + (1 + i))) (under k (stored_in s t) (wanted_in s w t) (overall_in s w t)) m (λ i h. element_row s f t l i h w))

    count_ours : sum_below (λ i. selects (ours (a + i))) (1 + m) ≡ cost (search_in s w t) (overall_in s w t)
    count_ours =
        sum_split (λ i. selects (ours (a + i))) 1 m
        ∙ ap₂ ◌+◌ (sum_one (λ i. selects (ours (a + i))) ∙ ap (λ (x : ℕ). selects (ours x)) (add-zero a) ∙ ap selects (overall_row s f t l w))
        (sum_same (λ i. selects (ours (a + (1 + i)))) (λ i. selects (under k (stored_in s t) (wanted_in s w t) (overall_in s w t) i)) m (λ i h. ap selects (element_row s f t l i h w)))
        ∙ sym (part_selects k (stored_in s t) (wanted_in s w t) m (overall_in s w t))

    slots_theirs : joined (λ i. theirs (a + i)) (1 + m) ≡ theirs a ++ joined (λ i. theirs (a + (1 + i))) m
    slots_theirs = joined_split (λ i. theirs (a + i)) 1 m ∙ ap (λ (x : ℕ). theirs x ++ joined (λ i. theirs (a + (1 + i))) m) (add-zero a)

    count_theirs : sum_below (λ i. selects (theirs (a + i))) (1 + m) ≡ selects (theirs a) + sum_below (λ i. selects (theirs (a + (1 + i)))) m
    count_theirs =
        sum_split (λ i. selects (theirs (a + i))) 1 m
        ∙ ap (λ (x : ℕ). x + sum_below (λ i. selects (theirs (a + (1 + i)))) m) (sum_one (λ i. selects (theirs (a + i))) ∙ ap (λ (x : ℕ). selects (theirs x)) (add-zero a))

    segment : NotAfter (sum_below (λ i. selects (ours (a + i))) (1 + m)) (joined (λ i. ours (a + i)) (1 + m))
        (sum_below (λ i. selects (theirs (a + i))) (1 + m)) (joined (λ i. theirs (a + i)) (1 + m))
    segment = rw (slots_ours, count_ours, slots_theirs, count_theirs) ours_part

    -- with the overall element that it has, the other page has the SELECTs that the type then needs
    part_needs : cost (search_in s w t) (theirs a) ≤ sum_below (λ i. selects (theirs (a + i))) (1 + m)
    part_needs =
        rw count_theirs
        (no_more _ _
        (same_overall k (stored_in s t) (wanted_in s w t) m (theirs a) (λ i. theirs (a + (1 + i))) overall_theirs (λ i. refl) elements_theirs element_acts))

  row_length : (i : ℕ) → length (ours i) ≡ 4
  row_length i = row_for_length s w i

  next_start : (t : ℕ) → start_of s (suc t) ≡ start_of s t + (1 + type_count s t)
  next_start t = ap (start_of s) (sym (add-one t)) ∙ start_next s t ∙ omega arith

  pub upto : (t : ℕ) → t ≤ types_of s
      → NotAfter (sum_below (λ i. selects (ours i)) (start_of s t)) (joined ours (start_of s t)) (sum_below (λ i. selects (theirs i)) (start_of s t)) (joined theirs (start_of s t))
  upto zero l = rw (start_none s) (after_refl 0 [])
  upto (suc t) l =
      let n = start_of s t in
      let m = type_count s t in
      rw (next_start t, joined_split ours n (1 + m), joined_split theirs n (1 + m), sum_split (λ i. selects (ours i)) n (1 + m), sum_split (λ i. selects (theirs i)) n (1 + m))
      (after_append (sum_below (λ i. selects (ours i)) n) (sum_below (λ i. selects (theirs i)) n) (sum_below (λ i. selects (ours (n + i))) (1 + m)) (sum_below (λ i. selects (theirs (n + i))) (1 + m))
      (joined ours n) (joined theirs n) (joined (λ i. ours (n + i)) (1 + m)) (joined (λ i. theirs (n + i)) (1 + m))
      (length-joined ours 4 row_length n ∙ sym (length-joined theirs 4 (λ i. refl) n))
      (upto t (omega arith))
      (segment t (omega arith)))

  pub needed_upto : (t : ℕ) → t ≤ types_of s → sum_below (λ u. cost (search_in s w u) (theirs (start_of s u))) t ≤ sum_below (λ i. selects (theirs i)) (start_of s t)
  needed_upto zero l = omega arith
  needed_upto (suc t) l =
      rw (next_start t, sum_split (λ i. selects (theirs i)) (start_of s t) (1 + type_count s t))
      (omega (arith, needed_upto t (omega arith), part_needs t (omega arith)))
