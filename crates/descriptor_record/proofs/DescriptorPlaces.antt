-- Where the descriptors of a page stand, and in which of them a byte does. Assumes nothing.
use Rattle.std.specs.Prelude.{Err}
use mathlib.Core.Path.{◌≡◌, refl, sym, ap, ◌∙◌}
use mathlib.Core.Bool.{Bool, true, false, not, ◌&&◌}
use mathlib.Core.List.{List}
use mathlib.Core.Logic.{⊎_elim}
use Prim.Native.Nat.{ℕ, zero, suc, ◌+◌, ◌-◌, ◌<◌, ◌≤◌}
use native.Mathlib.Nat.{eq-or-lt_of_le, le_of_suc-le-suc}
use native.Mathlib.Numerals.{add-one}
use native.Mathlib.Omega.{arith}
use lib.Dec.{eqb, ltb}
use lib.ListN.{length, get_or}
use borrow.Author.Tests.{lt-ltb, le-ltb, ne_eqb}
use Rattle.bits.proofs.Logic.{pick_yes, pick_no}
use Rattle.bits.proofs.Ends.{part_is}
use mir.Val.{Fits}
use mir.Syntax.{w8}
use Rattle.refusals.specs.declared.Refusal.TheVariants.{NeededLength}
use Rattle.page.specs.Header.{most_said, length_said, length_tested}
use Rattle.page.proofs.HeaderTests.{says_most, length_differs}
use Rattle.descriptor_record.specs.Read.{declared, place_on, descriptor_of, byte_offends, offends}

-- a page whose length is said has no more bytes than two can say
pub said_small : (p : List ℕ) → ((i : ℕ) → Fits w8 (get_or p i 0)) → length_said p ≡ true → length p ≤ most_said
unfolding length_said
said_small p f e = says_most p (length p) (f 2).fits (f 3).fits e

-- nor does a descriptor declare more
pub declared_small : (p : List ℕ) → ((i : ℕ) → Fits w8 (get_or p i 0)) → (k : ℕ) → declared p k ≤ 65535
unfolding declared
declared_small p f k = omega (arith, (f (k + 2)).fits, (f (k + 2 + 1)).fits)

module _ (p : List ℕ) where
  pub place_next : (i : ℕ) → place_on p (i + 1) ≡ place_on p i + (4 + declared p (place_on p i))
  place_next i = ap (place_on p) (add-one i)

  -- a loop carries the place on to the descriptor behind it
  pub place_carried : (i : ℕ) {k d : ℕ} → k ≡ place_on p i → d ≡ declared p k → k + (4 + d) ≡ place_on p (i + 1)
  place_carried i e q = rw (q, e) (sym (place_next i))

  pub place_up : (i n : ℕ) → i ≤ n → place_on p i ≤ place_on p n
  place_up i zero l = let e : i ≡ 0 = omega arith in rw e (omega arith)
  place_up i (suc n) l =
      ⊎_elim (λ (e : i ≡ suc n). rw e (omega arith)) (λ (m : i < suc n). let u = place_up i n (le_of_suc-le-suc m) in omega arith) (eq-or-lt_of_le l)

  -- a descriptor ends where all end, or before
  pub place_in : (i n : ℕ) → i < n → place_on p i + (4 + declared p (place_on p i)) ≤ place_on p n
  place_in i n l = omega (arith, place_next i, place_up (i + 1) n (omega arith))

  -- and so stands on a page that ends there
  pub in_page : (i n : ℕ) {k d : ℕ} → i < n → k ≡ place_on p i → d ≡ declared p k → length p ≡ place_on p n → k + (4 + d) ≤ length p
  in_page i n l e q h = rw (h, q, e) (place_in i n l)

  -- one that would start or end behind the page's end
  pub too_long : (i n : ℕ) {k : ℕ} → i < n → k ≡ place_on p i → length p < k + 4 → Err NeededLength ≡ length_tested p (place_on p n)
  too_long i n l e h = length_differs p (place_on p n) (λ q. omega (arith, place_in i n l))

  -- the byte j of descriptor i
  module _ (n i j : ℕ) (l : i < n) (h : j < 4 + declared p (place_on p i)) where
    pub in_descriptor : descriptor_of p n (place_on p i + j) ≡ i
    unfolding descriptor_of
    in_descriptor = part_is (place_on p) (place_on p i + j) n place_up i l (omega arith) (omega (arith, place_next i))

    pub offends_in : offends p n (place_on p i + j) ≡ byte_offends p (place_on p i) j
    unfolding offends
    offends_in =
        let k = place_on p i + j in
        let u = place_up 0 i (omega arith) in
        let e : k - place_on p i ≡ j = omega arith in
        pick_no (ltb k 8) _ _ (le-ltb k 8 (omega arith))
        ∙ ap (λ (d : ℕ). byte_offends p (place_on p d) (k - place_on p d)) in_descriptor
        ∙ ap (byte_offends p (place_on p i)) e

  -- before the descriptors byte 1 alone can offend
  pub offends_code : (n : ℕ) → offends p n 0 ≡ false
  unfolding offends
  offends_code n = refl

  pub offends_first : (n : ℕ) → offends p n 1 ≡ not (eqb (get_or p 1 0) 0)
  unfolding offends
  offends_first n = refl

  pub offends_head : (n k : ℕ) → k < 8 → offends p n 1 ≡ false → offends p n k ≡ false
  unfolding offends
  offends_head n zero l e = refl
  offends_head n (suc zero) l e = e
  offends_head n (suc (suc k)) l e =
      let m : eqb (suc (suc k)) 1 ≡ false = ne_eqb (suc (suc k)) 1 (λ e. omega arith) in
      pick_yes (ltb (suc (suc k)) 8) _ _ (lt-ltb (suc (suc k)) 8 l) ∙ ap (λ (b : Bool). b && not (eqb (get_or p (suc (suc k)) 0) 0)) m
