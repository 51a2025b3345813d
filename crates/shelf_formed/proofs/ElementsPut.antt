-- A shelf after four bytes of each of its first n elements were put anew, from the offset o of an element on. Assumes nothing.
use mathlib.Core.Path.{◌≡◌, refl, sym, ap, ap₂, ◌∙◌}
use mathlib.Core.Bool.{Bool, true, false, ◌&&◌}
use mathlib.Core.List.{List}
use mathlib.Core.Logic.{◌⊎◌, inl, inr, ⊎_elim}
use Prim.Native.Nat.{ℕ, zero, suc, ◌+◌, ◌<◌, ◌≤◌, ◌-◌}
use native.Mathlib.Nat.{not-suc-le-zero, le_of_suc-le-suc, eq-or-lt_of_le}
use native.Mathlib.Omega.{arith}
use lib.Dec.{eqb, ltb}
use lib.ListN.{length, get_or}
use borrow.Author.Tests.{eq-eqb, ltb-true, ltb-false}
use Rattle.bits.specs.Choice.{pick, all_below}
use Rattle.bits.specs.Numbers.{big}
use Rattle.bits.specs.Places.{two_at, four_at, fours_put}
use Rattle.bits.proofs.Logic.{by_case, pick_yes, and_right, and_both, below_at, below_all}
use Rattle.bits.proofs.FourPut.{Outside}
use Rattle.bits.proofs.FoursPut.{Apart, four_byte, length-fours, byte_kept, four_kept, front_kept, row_back, rows_same}
use Rattle.element.specs.Types.{reading_allowed, nominal_allowed}
use Rattle.element.specs.Settings.{settings_formed}
use Rattle.element.specs.Types.{had, ordered}
use Rattle.shelf.specs.Limits.{element_place, block_length}
use Rattle.shelf.specs.Types.{types_of, elements_of, kind_at}
use Rattle.shelf.specs.Elements.{settings_at, thresholds_at, reading_at, nominal_at, spare_at}
use Rattle.shelf_formed.specs.Formed.{zeros, spare_clear, element_formed, elements_formed, front_formed, well_formed}
use Rattle.shelf_formed.proofs.ElementPut.{length-formed}
use Rattle.shelf_formed.proofs.ElementTypes.{front_formed_lem}
use Rattle.shelf_formed.proofs.FormedShelf.{in_element}
use Rattle.shelf_formed.proofs.FrontOfShelf.{front, types_alike, elements_alike, kind_alike, front_alike}

-- a shelf with the same front and length, whose elements have the same reading, nominal and spare bytes
module _ (s x : List ℕ) (e : front x ≡ front s) (h : length x ≡ length s) (r : (j : ℕ) → j < elements_of s → reading_at x j ≡ reading_at s j)
    (m : (j : ℕ) → j < elements_of s → nominal_at x j ≡ nominal_at s j) (p : (j : ℕ) → j < elements_of s → spare_at x j ≡ spare_at s j)
    (w : well_formed s ≡ true) where
  spare : (j : ℕ) → j < elements_of s → spare_clear s j ≡ true
  unfolding well_formed elements_formed element_formed
  spare j l =
      let k = kind_at s j in
      let all = and_right (front_formed s && eqb (length s) (block_length (types_of s) (elements_of s))) (all_below (element_formed s) (elements_of s)) w in
      and_right
      ((((settings_formed k (settings_at s j) && had k (thresholds_at s j)) && ordered k (thresholds_at s j)) && reading_allowed k (reading_at s j)) && nominal_allowed k (nominal_at s j))
      (spare_clear s j)
      (below_at (element_formed s) (elements_of s) all j l)

  -- an element's settings and thresholds are such as its type may have
  abbrev Fine : ℕ → Type 0
  Fine j = (settings_formed (kind_at s j) (settings_at x j) ≡ true) × (had (kind_at s j) (thresholds_at x j) ≡ true) × (ordered (kind_at s j) (thresholds_at x j) ≡ true)

  element : (j : ℕ) → j < elements_of s → Fine j → element_formed x j ≡ true
  unfolding element_formed spare_clear
  element j l f =
      let k = kind_alike s x e j l in
      let i = in_element s w j l in
      let settings : settings_formed (kind_at x j) (settings_at x j) ≡ true = rw k f.0 in
      let has : had (kind_at x j) (thresholds_at x j) ≡ true = rw k f.1 in
      let order : ordered (kind_at x j) (thresholds_at x j) ≡ true = rw k f.2 in
      let reading : reading_allowed (kind_at x j) (reading_at x j) ≡ true = rw (k, r j l) i.3 in
      let nominal : nominal_allowed (kind_at x j) (nominal_at x j) ≡ true = rw (k, m j l) i.4 in
      and_both (and_both (and_both (and_both (and_both settings has) order) reading) nominal) (ap zeros (p j l) ∙ spare j l)

  pub formed : ((j : ℕ) → j < elements_of s → Fine j) → well_formed x ≡ true
  unfolding well_formed elements_formed
  formed f =
      let n : elements_of x ≡ elements_of s = elements_alike s x e in
      and_both
      (and_both (front_alike s x e ∙ front_formed_lem s w)
      (eq-eqb (length x) (block_length (types_of x) (elements_of x)) (h ∙ length-formed s w ∙ ap₂ block_length (sym (types_alike s x e)) (sym n))))
      (below_all (element_formed x) (elements_of x) (λ j b. let l : j < elements_of s = rw n at b in element j l (f j l)))

-- byte q is one of the four from k on
abbrev Among : ℕ → ℕ → Type 0
Among k q = (i : ℕ) × (i < 4) × (q ≡ k + i)

four_or_other : (k q : ℕ) → Among k q ⊎ Outside q k
four_or_other k q =
    by_case (ltb q k) (λ a. inr (inl (ltb-true q k a)))
    (λ a.
    let b = ltb-false q k a in
    by_case (ltb q (k + 4)) (λ c. let d = ltb-true q (k + 4) c in inl (q - k, omega arith, omega arith)) (λ c. inr (inr (ltb-false q (k + 4) c))))

-- one of the four of one of the first n elements, or of none
abbrev InRow : (ℕ → ℕ) → ℕ → ℕ → Type 0
InRow at n q = (j : ℕ) × (j < n) × Among (at j) q

in_row : (at : ℕ → ℕ) (n q : ℕ) → InRow at n q ⊎ ((k : ℕ) → k < n → Outside q (at k))
in_row at zero q = inr (λ k l. absurd (not-suc-le-zero l))
in_row at (suc n) q =
    ⊎_elim (λ (r : InRow at n q). inl (r.0, omega arith, r.2))
    (λ (h : (k : ℕ) → k < n → Outside q (at k)).
    ⊎_elim (λ (r : Among (at n) q). inl (n, omega arith, r))
    (λ (o : Outside q (at n)). inr (λ k l. ⊎_elim (λ e. rw e o) (h k) (eq-or-lt_of_le (le_of_suc-le-suc l))))
    (four_or_other (at n) q))
    (in_row at n q)

module _ (at : ℕ → ℕ) (o : ℕ) (place : (j : ℕ) → at j ≡ element_place j + o) (low : o + 4 ≤ 8) where
  -- bytes of an element beside the four are beside those of every element
  beside : (j q : ℕ) → q + 4 ≤ 16 → Apart q o → (k : ℕ) → Apart (element_place j + q) (at k)
  beside j q l h k =
      by_case (ltb j k)
      (λ e. let m = ltb-true j k e in inl (omega (arith, place k)))
      (λ e.
      let m = ltb-false j k e in
      by_case (ltb k j)
      (λ e2. let n = ltb-true k j e2 in inr (omega (arith, place k)))
      (λ e2.
      let n = ltb-false k j e2 in
      ⊎_elim (λ (a : q + 4 ≤ o). inl (omega (arith, place k))) (λ (a : o + 4 ≤ q). inr (omega (arith, place k))) h))

  module _ (f : ℕ → List ℕ) (s : List ℕ) (n : ℕ) where
    pub front_after : front (fours_put at f s n) ≡ front s
    front_after = front_kept at f s (element_place 0) n (λ k l. omega (arith, place k))

    four_after : (j q : ℕ) → q + 4 ≤ 16 → Apart q o → four_at (fours_put at f s n) (element_place j + q) ≡ four_at s (element_place j + q)
    four_after j q l h = four_kept at f s n (element_place j + q) (λ k m. beside j q l h k)

    -- an element that was not reached yet
    pub row_later : (j : ℕ) → n ≤ j → four_at (fours_put at f s n) (at j) ≡ four_at s (at j)
    row_later j h = four_kept at f s n (at j) (λ k m. inr (omega (arith, place j, place k)))

    -- an element that was reached
    row_after : (j : ℕ) → j < n → element_place j + 16 ≤ length s → four_at (fours_put at f s n) (at j) ≡ four_at (f j) 0
    row_after j h r = row_back at f s n j h (omega (arith, place j)) (λ k l m. inl (omega (arith, place j, place k)))

    -- an element whose four bytes are the same keeps every byte
    element_kept : (j : ℕ) → four_at (fours_put at f s n) (at j) ≡ four_at s (at j) → (q : ℕ) → q < 16
        → get_or (fours_put at f s n) (element_place j + q) 0 ≡ get_or s (element_place j + q) 0
    element_kept j e q l = ⊎_elim inside (byte_kept at f s n (element_place j + q)) (in_row at n (element_place j + q))
      where
        inside : InRow at n (element_place j + q) → get_or (fours_put at f s n) (element_place j + q) 0 ≡ get_or s (element_place j + q) 0
        inside (k, h, (i, m, p)) =
            let r : element_place j + q ≡ at j + i = omega (arith, place j, place k) in
            ap (λ (w : ℕ). get_or (fours_put at f s n) w 0) r ∙ four_byte (fours_put at f s n) s (at j) e i m ∙ ap (λ (w : ℕ). get_or s w 0) (sym r)

    -- they were put if a test passed, else the shelf is as it was
    module _ (t : Bool) where
      abbrev after : List ℕ
      after = pick t (fours_put at f s n) s

      either : (P : List ℕ → Type 0) → P s → (t ≡ true → P (fours_put at f s n)) → P after
      either P a b = go t refl
        where
          go : (v : Bool) → t ≡ v → P (pick v (fours_put at f s n) s)
          go true e = b e
          go false e = a

      pub length-same : length after ≡ length s
      length-same = either (λ (x : List ℕ). length x ≡ length s) refl (λ e. length-fours at f s n)

      pub front_same : front after ≡ front s
      front_same = either (λ (x : List ℕ). front x ≡ front s) refl (λ e. front_after)

      pub four_same : (j q : ℕ) → q + 4 ≤ 16 → Apart q o → four_at after (element_place j + q) ≡ four_at s (element_place j + q)
      four_same j q l h = either (λ (x : List ℕ). four_at x (element_place j + q) ≡ four_at s (element_place j + q)) refl (λ e. four_after j q l h)

      pub reading_same : (j : ℕ) → reading_at after j ≡ reading_at s j
      unfolding reading_at
      reading_same j = ap (λ (e : List ℕ). big (two_at e 0)) (four_same j 8 (omega arith) (inr (omega arith)))

      pub nominal_same : (j : ℕ) → nominal_at after j ≡ nominal_at s j
      unfolding nominal_at
      nominal_same j = ap (λ (e : List ℕ). big (two_at e 0)) (four_same j 10 (omega arith) (inr (omega arith)))

      spare_same : (j : ℕ) → spare_at after j ≡ spare_at s j
      unfolding spare_at
      spare_same j = four_same j 12 (omega arith) (inr (omega arith))

      -- what was put is read back
      pub row_put : t ≡ true → (j : ℕ) → j < n → element_place j + 16 ≤ length s → four_at after (at j) ≡ four_at (f j) 0
      row_put e j l r = ap (λ (x : List ℕ). four_at x (at j)) (pick_yes t (fours_put at f s n) s e) ∙ row_after j l r

      -- an element whose four bytes would be the same keeps every byte
      pub element_same : (j : ℕ) → (t ≡ true → four_at after (at j) ≡ four_at s (at j)) → (q : ℕ) → q < 16
          → get_or after (element_place j + q) 0 ≡ get_or s (element_place j + q) 0
      element_same j h q l =
          either (λ (x : List ℕ). get_or x (element_place j + q) 0 ≡ get_or s (element_place j + q) 0) refl
          (λ e. element_kept j (ap (λ (x : List ℕ). four_at x (at j)) (sym (pick_yes t (fours_put at f s n) s e)) ∙ h e) q l)

      -- nothing is put that does not stand already
      pub rows_unmoved : (t ≡ true → (j : ℕ) → j < n → four_at (f j) 0 ≡ four_at s (at j)) → after ≡ s
      rows_unmoved h = either (λ (x : List ℕ). x ≡ s) refl (λ e. rows_same at f s n (h e))

      -- a byte stays, or is one that was put, of which P is known unless it stays too
      pub bytes_same : (P : ℕ → Type 0) → ((j i : ℕ) → j < n → i < 4 → (get_or after (at j + i) 0 ≡ get_or s (at j + i) 0) ⊎ P (at j + i))
          → (q : ℕ) → (get_or after q 0 ≡ get_or s q 0) ⊎ P q
      bytes_same P h q =
          ⊎_elim (λ (r : InRow at n q). rw r.2.2 (h r.0 r.2.0 r.1 r.2.1))
          (λ (m : (k : ℕ) → k < n → Outside q (at k)). inl (either (λ (x : List ℕ). get_or x q 0 ≡ get_or s q 0) refl (λ e. byte_kept at f s n q m)))
          (in_row at n q)

      -- a well-formed shelf stays so, if settings and thresholds are such as the types may have
      pub formed_same : well_formed s ≡ true
          → ((j : ℕ) → j < elements_of s
          → (settings_formed (kind_at s j) (settings_at after j) ≡ true)
          × (had (kind_at s j) (thresholds_at after j) ≡ true)
          × (ordered (kind_at s j) (thresholds_at after j) ≡ true))
          → well_formed after ≡ true
      formed_same w = formed s after front_same length-same (λ j l. reading_same j) (λ j l. nominal_same j) (λ j l. spare_same j) w
