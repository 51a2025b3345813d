-- Of the parts that bring the elements of a type to their wishes, none comes before the one that is sent. Assumes nothing.
use mathlib.Core.Path.{◌≡◌, refl, sym, ap, ◌∙◌}
use mathlib.Core.Bool.{Bool, true, false}
use mathlib.Core.List.{List, ◌++◌}
use mathlib.Core.Logic.{◌⊎◌, inl, inr}
use Prim.Native.Nat.{ℕ, zero, suc, ◌+◌, ◌%◌, ◌<◌, ◌≤◌}
use native.Mathlib.Omega.{arith}
use lib.Dec.{eqb, leb}
use lib.ListN.{length}
use borrow.Author.Tests.{eqb-true}
use Rattle.bits.specs.Choice.{pick, sum_below}
use Rattle.bits.specs.Rows.{joined}
use Rattle.bits.proofs.Logic.{by_case, pick_no}
use Rattle.bits.proofs.Sums.{sum_same}
use Rattle.build_order.specs.Order.{NotAfter}
use Rattle.build_order.specs.Search.{Search, cost, best_tried, best}
use Rattle.build_order.proofs.ByCount.{after_refl, after_trans, after_append, after_rows}
use Rattle.build_order.proofs.BestRow.{TriedFor, AsGood, Facts, best_first, tried_again}
use Rattle.element.specs.declared.types.Kind.{Kind}
use Rattle.element_control.specs.declared.Control.{Control}
use Rattle.element.specs.Settings.{settings_of}
use Rattle.element_control.specs.Control.{selected, control_of, chosen, settled}
use Rattle.build_element.specs.Wishes.{silent, request_bytes, request_for, brings}
use Rattle.build_element.specs.Parts.{selects, under, part, tried, tries, overall_search}
use Rattle.build_element.proofs.SoundLayout.{request_small}
use Rattle.build_element.proofs.RequestSays.{request_selected, request_fine, request_length, silent_fine}
use Rattle.build_element.proofs.FirstElement.{Row, silent_small, alike_says, selected_acts, row_request, one_first, one_row, one_selects}
use Rattle.build_element.proofs.Requests.{request_is, reaches_it, code_is}

-- what is tried is a control element of the type, and selected
tried_row : (k : Kind) (x : List ℕ) (v : ℕ) → Row k (tried k x v)
unfolding tried
tried_row k x v =
    let s = settings_of k x in
    let r = request_for s (eqb (v % 2) 1) (pick (leb 2 v) s.speed 0) in
    (request_length k r, request_small k r, request_fine k r)

tried_selected : (k : Kind) (x : List ℕ) (v : ℕ) → selected (tried k x v) ≡ true
unfolding tried
tried_selected k x v = let s = settings_of k x in request_selected k (request_for s (eqb (v % 2) 1) (pick (leb 2 v) s.speed 0))

-- two at least, and all four where a speed is wanted
two_tried : (k : Kind) (x : List ℕ) → 2 ≤ tries k x
unfolding tries
two_tried k x = by_case (eqb (settings_of k x).speed 0) (λ t. rw t (omega arith)) (λ t. rw t (omega arith))

four_tried : (k : Kind) (x : List ℕ) → eqb (settings_of k x).speed 0 ≡ false → tries k x ≡ 4
unfolding tries
four_tried k x t = pick_no _ _ _ t

-- a selected element that brings e to w is one of those that are tried for w
tried_all : (k : Kind) (e w o : List ℕ) → Row k o → selected o ≡ true → brings k (control_of k o) e w ≡ true
    → (v : ℕ) × (v < tries k w) × (o ≡ tried k w v)
unfolding tried brings
tried_all k e w o q t h =
    let r = settings_of k o in
    let x = settings_of k w in
    let a = selected_acts k e w o t (alike_says k (settled k (control_of k o) e) w h) in
    let z = go r.swap r.speed (code_is (settings_of k e) x r.swap r.speed (reaches_it (settings_of k e) x r a)) in
    (z.0, z.1, sym (row_request k o q t) ∙ ap (request_bytes k) (request_is (settings_of k e) x r a) ∙ z.2)
  where
    At : Bool → ℕ → Type 0
    At b n = (v : ℕ) × (v < tries k w) × (request_bytes k (request_for (settings_of k w) b n) ≡ tried k w v)

    uncoded : (b : Bool) (n : ℕ) → n ≡ 0 → At b n
    uncoded false n z = unfold tried in (0, omega (arith, two_tried k w), rw z)
    uncoded true n z = unfold tried in (1, omega (arith, two_tried k w), rw z)

    coded : (b : Bool) (n : ℕ) → n ≡ (settings_of k w).speed → eqb (settings_of k w).speed 0 ≡ false → At b n
    coded false n z u = unfold tried in (2, omega (arith, four_tried k w u), rw z)
    coded true n z u = unfold tried in (3, omega (arith, four_tried k w u), rw z)

    go : (b : Bool) (n : ℕ) → (n ≡ 0) ⊎ (n ≡ (settings_of k w).speed) → At b n
    go b n (inl z) = uncoded b n z
    go b n (inr z) = by_case (eqb (settings_of k w).speed 0) (λ u. uncoded b n (z ∙ eqb-true _ 0 u)) (λ u. coded b n z u)

unselected_control : (k : Kind) (o : List ℕ) → selected o ≡ false → control_of k o ≡ control_of k silent
unfolding control_of
unselected_control k o t = pick_no _ _ _ t

module _ (k : Kind) (e w : ℕ → List ℕ) (m : ℕ) where
  abbrev q : Search
  q = overall_search k e w m

  -- one that is not selected serves what the start does
  off : (o : List ℕ) → selected o ≡ false → AsGood q silent o
  off o t = (
    (λ i l h. ap (λ (c : Control). brings k c (e i) (w i)) (sym (unselected_control k o t)) ∙ h),
    omega arith,
    omega arith,
  )

  -- and one that is selected is tried itself
  itself : (o : List ℕ) → AsGood q o o
  itself o = ((λ i l h. h), omega arith, omega arith)

  served : (o : List ℕ) → Row k o → (i : ℕ) → i < m → brings k (control_of k o) (e i) (w i) ≡ true
      → (b : List ℕ) × TriedFor q i b × AsGood q b o
  served o r i l h =
      by_case (selected o) (λ t. (o, inr (tried_all k (e i) (w i) o r t h), itself o)) (λ t. (silent, inl refl, off o t))

  pub search_facts : Facts q (Row k)
  search_facts = record {
    starts = (refl, silent_small, silent_fine k);
    tries = λ i v l. tried_row k (w i) v;
    long = λ a b ha hb. ha.0 ∙ sym hb.0;
    bytes = λ a h. h.1;
    free = refl;
    first = λ a h. omega arith;
    counts = λ i v l. rw (tried_selected k (w i) v) (omega arith);
    covered = served;
  }

  -- what is counted is the SELECTs of the part
  pub part_selects : (o : List ℕ) → cost q o ≡ selects o + sum_below (λ i. selects (under k e w o i)) m
  unfolding cost
  part_selects o = ap (λ (n : ℕ). selects o + n) (sym (sum_same _ _ m (λ i l. one_selects k (e i) (w i) (control_of k o))))

  -- to try all four would find no better one
  module _ (x a : List ℕ) where
    two_do : (settings_of k x).speed ≡ 0 → best_tried q x a 4 ≡ best_tried q x a 2
    unfolding tried
    two_do z = tried_again q x a 2 2 again
      where
        same : (b : Bool) → request_bytes k (request_for (settings_of k x) b (settings_of k x).speed) ≡ request_bytes k (request_for (settings_of k x) b 0)
        same b = ap (λ n. request_bytes k (request_for (settings_of k x) b n)) z

        again : (t : ℕ) → t < 2 → (u : ℕ) × (u < 2) × (tried k x (2 + t) ≡ tried k x u)
        again zero l = unfold tried in (0, omega arith, same false)
        again (suc zero) l = unfold tried in (1, omega arith, same true)
        again (suc (suc t)) l = absurd (omega arith)

    pub tries_do : best_tried q x a (tries k x) ≡ best_tried q x a 4
    unfolding tries
    tries_do = by_case (eqb (settings_of k x).speed 0) (λ t. rw t (sym (two_do (eqb-true _ 0 t)))) (λ t. rw t)

  -- a part that brings the elements to their wishes
  module _ (o : List ℕ) (c : ℕ → List ℕ) (ho : Row k o) (hc : (i : ℕ) → length (c i) ≡ 4) (rows : (i : ℕ) → i < m → Row k (c i))
      (acts : (i : ℕ) → i < m → settled k (chosen (control_of k o) (control_of k (c i))) (e i) ≡ w i) where
    abbrev theirs : ℕ
    theirs = sum_below (λ i. selects (c i)) m

    -- under the same overall element
    fill : NotAfter (sum_below (λ i. selects (under k e w o i)) m) (joined (under k e w o) m) theirs (joined c m)
    fill =
        after_rows selects 4 (under k e w o) c (λ i. (one_row k (e i) (w i) (control_of k o)).0) hc m
        (λ i l. one_first k (e i) (w i) (control_of k o) (c i) (rows i l) (acts i l))

    pub same_overall : NotAfter (cost q o) (part k e w m o) (selects o + theirs) (o ++ joined c m)
    same_overall =
        rw (part_selects o)
        (after_append (selects o) (selects o) (sum_below (λ i. selects (under k e w o i)) m) theirs o o (joined (under k e w o) m) (joined c m) refl
        (after_refl (selects o) o)
        fill)

    pub part_first : NotAfter (cost q (best q)) (part k e w m (best q)) (selects o + theirs) (o ++ joined c m)
    part_first =
        let b = best q in
        after_trans (cost q b) (cost q o) (selects o + theirs) (part k e w m b) (part k e w m o) (o ++ joined c m)
        (best_first q (Row k) search_facts (λ a. joined (under k e w a) m) o ho)
        same_overall
