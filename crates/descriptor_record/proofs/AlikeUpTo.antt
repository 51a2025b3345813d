-- Whether a byte of an Element Descriptor page offends is decided by the bytes up to it, and the one behind it: a length is told at the
-- first of its two. Assumes nothing.
use mathlib.Core.Path.{◌≡◌, refl, sym, ap, ap₂, ◌∙◌}
use mathlib.Core.Bool.{Bool, true, false, not, ◌&&◌}
use mathlib.Core.List.{List}
use Prim.Native.Nat.{ℕ, zero, suc, ◌+◌, ◌-◌, ◌<◌, ◌≤◌}
use native.Mathlib.Omega.{arith}
use lib.Dec.{eqb, leb, ltb}
use lib.ListN.{get_or}
use borrow.Author.Tests.{ltb-true, ltb-false, eqb-true}
use Rattle.bits.specs.Bits.{printable}
use Rattle.bits.specs.Choice.{pick}
use Rattle.bits.specs.Places.{AlikeTo}
use Rattle.bits.proofs.Logic.{by_case, pick_yes}
use Rattle.bits.proofs.Ends.{found, part_start, part_end, part_there}
use Rattle.shelf.specs.Limits.{most_text}
use Rattle.descriptor_record.specs.Read.{declared, place_on, byte_offends, offends}
use Rattle.descriptor_record.proofs.DescriptorPlaces.{place_next, offends_in}

module _ (p q : List ℕ) (k : ℕ) (h : AlikeTo (k + 1) p q) where
  declared_alike : (at : ℕ) → at + 2 ≤ k → declared p at ≡ declared q at
  unfolding declared
  declared_alike at l = rw (h (at + 2) (omega arith), h (at + 2 + 1) (omega arith))

  place_alike : (i : ℕ) → place_on p i ≤ k → place_on p i ≡ place_on q i
  place_alike zero l = refl
  place_alike (suc i) l =
      let e = place_alike i (omega arith) in
      ap (λ (d : ℕ). place_on p i + (4 + d)) (declared_alike (place_on p i) (omega arith)) ∙ ap (λ (at : ℕ). at + (4 + declared q at)) e

  -- byte j of one descriptor
  abbrev judged : ℕ → Bool → ℕ → Bool
  judged j long b = pick (ltb j 2) (not (eqb b 0)) (pick (eqb j 2) long (pick (eqb j 3) false (not (printable b))))

  byte_alike : (at j : ℕ) → at + j ≤ k → byte_offends p at j ≡ byte_offends q at j
  unfolding byte_offends
  byte_alike at j l =
      by_case (eqb j 2)
      (λ t. let e = declared_alike at (omega (arith, eqb-true j 2 t)) in ap₂ (λ (d b : ℕ). judged j (not (leb d most_text)) b) e byte)
      (λ t. ap (judged j (not (leb (declared p at) most_text))) byte ∙ other t)
    where
      byte : get_or p (at + j) 0 ≡ get_or q (at + j) 0
      byte = h (at + j) (omega arith)

      other : eqb j 2 ≡ false → judged j (not (leb (declared p at) most_text)) (get_or q (at + j) 0) ≡ judged j (not (leb (declared q at) most_text)) (get_or q (at + j) 0)
      other t = rw t

  pub offends_alike : (n m : ℕ) → m ≤ k → m < place_on p n → offends p n m ≡ offends q n m
  offends_alike n m l b = by_case (ltb m 8) (λ t. fixed t) (λ t. behind (ltb-false m 8 t))
    where
      fixed : ltb m 8 ≡ true → offends p n m ≡ offends q n m
      fixed t = unfold offends in pick_yes _ _ _ t ∙ ap (λ (x : ℕ). eqb m 1 && not (eqb x 0)) (h m (omega arith)) ∙ sym (pick_yes _ _ _ t)

      within : (i j : ℕ) → place_on p i ≡ place_on q i → place_on p i + j ≤ k → j < 4 + declared p (place_on p i) → j < 4 + declared q (place_on q i)
      within i j s c d =
          by_case (ltb j 2) (λ t. omega (arith, ltb-true j 2 t))
          (λ t.
          let x : declared p (place_on p i) ≡ declared q (place_on q i) = declared_alike (place_on p i) (omega (arith, ltb-false j 2 t)) ∙ ap (declared q) s in
          omega (arith, x))

      behind : 8 ≤ m → offends p n m ≡ offends q n m
      behind u =
          let i = found (place_on p) m n in
          let il : i < n = part_there (place_on p) m n u b in
          let a = part_start (place_on p) m n u in
          let z = part_end (place_on p) m n il in
          let at = place_on p i in
          let j = m - at in
          let e : m ≡ at + j = omega arith in
          let s : at ≡ place_on q i = place_alike i (omega arith) in
          let d : j < 4 + declared p at = omega (arith, place_next p i) in
          ap (offends p n) e
          ∙ offends_in p n i j il d
          ∙ byte_alike at j (omega arith)
          ∙ ap (λ (x : ℕ). byte_offends q x j) s
          ∙ sym (offends_in q n i j il (within i j s (omega arith) d))
          ∙ ap (λ (x : ℕ). offends q n (x + j)) (sym s)
          ∙ ap (offends q n) (sym e)
