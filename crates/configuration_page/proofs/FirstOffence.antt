-- The search for the first offending byte, part by part. Assumes nothing.
use Rattle.std.specs.Prelude.{Some, None}
use mathlib.Core.Path.{◌≡◌, refl, sym, ap, ◌∙◌}
use mathlib.Core.Bool.{Bool, true, false, not, ◌&&◌}
use mathlib.Core.List.{List}
use Prim.Native.Nat.{ℕ, ◌+◌, ◌<◌, ◌≤◌}
use native.Mathlib.Nat.{add-zero}
use native.Mathlib.Omega.{arith}
use lib.Dec.{eqb, leb}
use lib.ListN.{get_or}
use borrow.Author.Tests.{leb-true}
use Rattle.bits.specs.Choice.{first_of, all_below}
use Rattle.bits.specs.Found.{found_below}
use Rattle.bits.proofs.Found.{found_at, found_none, found_first, none_passes}
use Rattle.bits.specs.Places.{four_at}
use Rattle.bits.proofs.Logic.{and_right, below_all, below_next, fails, first_passes, first_fails, all_four, first_small}
use Rattle.element.specs.Types.{served}
use Rattle.shelf.specs.Limits.{most_types, most_elements, most_in_type, most_text}
use Rattle.configuration_page.specs.Page.{header_place}
use Rattle.configuration_page.specs.Read.{types_on, header_byte, total_before, fixed_offends, header_offends, offends}
use Rattle.configuration_page.proofs.Loops.{total_next}
use Rattle.configuration_page.proofs.Refusals.{header_at}

module _ (f : ℕ → Bool) where
  -- what is found in a part is found in the whole
  found : (a n k : ℕ) → Some k ≡ found_below f a → a ≤ n → Some k ≡ found_below f n
  found a n k e l =
      let h = found_first f a e in
      let none = below_all (fails f) k (λ i q. ap not (first_fails f a i (omega (arith, h.0)))) in
      found_at f n k (omega (arith, h.1)) none (rw h.0 at (first_passes f a (omega (arith, h.0, h.1))))

  next : (m k : ℕ) → k ≡ m + 1 → all_below (fails f) m ≡ true → f m ≡ false → all_below (fails f) k ≡ true
  next m k e h q = rw e (below_next (fails f) m h (ap not q))

  -- four more bytes, whose tests say so
  module _ (m : ℕ) (h : all_below (fails f) m ≡ true) where
    four_found : (a b c d : Bool) → f m ≡ not a → f (m + 1) ≡ not b → f (m + 2) ≡ not c → f (m + 3) ≡ not d
        → (n : ℕ) → m + 4 ≤ n → first_of a b c d < 4 → Some (m + first_of a b c d) ≡ found_below f n
    unfolding first_of
    four_found false b c d p q r s n l k = rw (add-zero m) (found_at f n m (omega arith) h p)
    four_found true false c d p q r s n l k = found_at f n (m + 1) (omega arith) (next m (m + 1) refl h p) q
    four_found true true false d p q r s n l k =
        let h1 = next m (m + 1) refl h p in
        found_at f n (m + 2) (omega arith) (next (m + 1) (m + 2) (omega arith) h1 q) r
    four_found true true true false p q r s n l k =
        let h1 = next m (m + 1) refl h p in
        let h2 = next (m + 1) (m + 2) (omega arith) h1 q in
        found_at f n (m + 3) (omega arith) (next (m + 2) (m + 3) (omega arith) h2 r) s
    four_found true true true true p q r s n l k = absurd (omega arith)

    four_none : f m ≡ false → f (m + 1) ≡ false → f (m + 2) ≡ false → f (m + 3) ≡ false → all_below (fails f) (m + 4) ≡ true
    four_none p q r s =
        let h1 = next m (m + 1) refl h p in
        let h2 = next (m + 1) (m + 2) (omega arith) h1 q in
        let h3 = next (m + 2) (m + 3) (omega arith) h2 r in
        next (m + 3) (m + 4) (omega arith) h3 s

module _ (p : List ℕ) where
  -- nothing offends in a part
  pub none_yet : (n : ℕ) → found_below (offends p) n ≡ None → all_below (fails (offends p)) n ≡ true
  none_yet n e = none_passes (offends p) n (sym e)

  pub found_in : {k : ℕ} (a n : ℕ) → Some k ≡ found_below (offends p) a → a ≤ n → Some k ≡ found_below (offends p) n
  found_in {k} a n e l = found (offends p) a n k e l

-- before the headers: which byte is the first
module _ (p : List ℕ) where
  pub fixed_1 : eqb (get_or p 1 0) 0 ≡ false → Some 1 ≡ found_below (offends p) 48
  unfolding offends fixed_offends
  fixed_1 e = found_at (offends p) 48 1 (omega arith) refl (rw e)

  module _ (e1 : eqb (get_or p 1 0) 0 ≡ true) where
    pub fixed_8 : eqb (get_or p 8 0) 0x11 ≡ false → Some 8 ≡ found_below (offends p) 48
    unfolding offends fixed_offends
    fixed_8 e = found_at (offends p) 48 8 (omega arith) (rw e1) (rw e)

    module _ (e8 : eqb (get_or p 8 0) 0x11 ≡ true) where
      pub fixed_9 : eqb (get_or p 9 0) 0 ≡ false → Some 9 ≡ found_below (offends p) 48
      unfolding offends fixed_offends
      fixed_9 e = found_at (offends p) 48 9 (omega arith) (rw (e1, e8)) (rw e)

      module _ (e9 : eqb (get_or p 9 0) 0 ≡ true) where
        pub fixed_10 : leb 1 (types_on p) && leb (types_on p) most_types ≡ false → Some 10 ≡ found_below (offends p) 48
        unfolding offends fixed_offends
        fixed_10 e = found_at (offends p) 48 10 (omega arith) (rw (e1, e8, e9)) (rw e)

        module _ (e10 : leb 1 (types_on p) && leb (types_on p) most_types ≡ true) where
          pub fixed_11 : eqb (get_or p 11 0) 0x24 ≡ false → Some 11 ≡ found_below (offends p) 48
          unfolding offends fixed_offends
          fixed_11 e = found_at (offends p) 48 11 (omega arith) (rw (e1, e8, e9, e10)) (rw e)

          pub fixed_none : eqb (get_or p 11 0) 0x24 ≡ true → None ≡ found_below (offends p) 48
          unfolding offends fixed_offends
          fixed_none e = found_none (offends p) 48 (rw (e1, e8, e9, e10, e))

-- the header of type t
module _ (p : List ℕ) (t : ℕ) (h : t < types_on p) {e : List ℕ} {s : ℕ} {v : Bool} (ee : e ≡ four_at p (header_place t)) (es : s ≡ total_before p t) (ev : v ≡ served (get_or e 0 0)) where
  counted : Bool
  counted = leb (get_or e 1 0) most_in_type && leb (s + get_or e 1 0) most_elements

  byte_of : (j : ℕ) → get_or e j 0 ≡ get_or (four_at p (header_place t)) j 0
  byte_of j = ap (λ (l : List ℕ). get_or l j 0) ee

  zeroth : header_byte p 0 t ≡ get_or p (header_place t) 0
  zeroth = ap (λ (k : ℕ). get_or p k 0) (add-zero (header_place t))

  offends_0 : offends p (header_place t) ≡ not v
  unfolding header_offends
  offends_0 =
      ap (offends p) (sym (add-zero (header_place t))) ∙ header_at p t 0 h (omega arith) ∙ ap (λ (b : ℕ). not (served b)) (zeroth ∙ sym (byte_of 0)) ∙ ap not (sym ev)

  offends_1 : offends p (header_place t + 1) ≡ not counted
  unfolding header_offends counted
  offends_1 = header_at p t 1 h (omega arith) ∙ rw (byte_of 1, es)

  offends_2 : offends p (header_place t + 2) ≡ not (eqb (get_or e 2 0) 0)
  unfolding header_offends
  offends_2 = header_at p t 2 h (omega arith) ∙ rw (byte_of 2)

  offends_3 : offends p (header_place t + 3) ≡ not (leb (get_or e 3 0) most_text)
  unfolding header_offends
  offends_3 = header_at p t 3 h (omega arith) ∙ rw (byte_of 3)

  module _ {k : ℕ} (ek : k ≡ first_of v (leb (get_or e 1 0) most_in_type && leb (s + get_or e 1 0) most_elements) (eqb (get_or e 2 0) 0) (leb (get_or e 3 0) most_text))
      (a : all_below (fails (offends p)) (header_place t) ≡ true) where
    pub header_refused : {m n : ℕ} → k < 4 → m ≡ header_place t → n ≡ types_on p → Some (m + k) ≡ found_below (offends p) (header_place n)
    unfolding counted
    header_refused {m} {n} l em en =
        rw (em, ek)
        (four_found (offends p) (header_place t) a v counted (eqb (get_or e 2 0) 0) (leb (get_or e 3 0) most_text) offends_0 offends_1 offends_2 offends_3
        (header_place n) (omega arith) (rw ek at l))

    pub header_passed : 4 ≤ k → (s + get_or e 1 0 ≤ most_elements) × (s + get_or e 1 0 ≡ total_before p (t + 1)) × (all_below (fails (offends p)) (header_place (t + 1)) ≡ true)
    unfolding counted
    header_passed l =
        let x2 = eqb (get_or e 2 0) 0 in
        let x3 = leb (get_or e 3 0) most_text in
        let o = all_four v counted x2 x3 (let q = first_small v counted x2 x3 in omega arith) in
        let n = four_none (offends p) (header_place t) a (offends_0 ∙ ap not o.0) (offends_1 ∙ ap not o.1) (offends_2 ∙ ap not o.2) (offends_3 ∙ ap not o.3) in
        let g : header_place t + 4 ≡ header_place (t + 1) = omega arith in (
          leb-true (s + get_or e 1 0) most_elements (and_right (leb (get_or e 1 0) most_in_type) (leb (s + get_or e 1 0) most_elements) o.1),
          total_next p t es (byte_of 1),
          rw g at n,
        )
