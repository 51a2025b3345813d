-- The search for the first offending byte, descriptor by descriptor. Assumes nothing.
use Rattle.std.specs.Prelude.{Some, None}
use mathlib.Core.Path.{◌≡◌, refl, sym, ap, ◌∙◌}
use mathlib.Core.Bool.{Bool, true, false, not}
use mathlib.Core.List.{List}
use Prim.Native.Nat.{ℕ, zero, suc, ◌+◌, ◌-◌, ◌<◌, ◌≤◌}
use native.Mathlib.Nat.{add-zero}
use native.Mathlib.Omega.{arith}
use lib.Dec.{eqb, leb, ltb}
use lib.ListN.{get_or}
use borrow.Author.Tests.{ltb-true, ltb-false, lt-ltb, le-ltb, le-leb, lt-leb, eq-eqb, ne_eqb, not-true}
use Rattle.bits.specs.Bits.{printable}
use Rattle.bits.specs.Choice.{all_below, first_below}
use Rattle.bits.specs.Texts.{printable_run}
use Rattle.bits.specs.Found.{found_below}
use Rattle.bits.proofs.Found.{found_is, found_not, found_at, found_none, found_first, none_first}
use Rattle.bits.proofs.Logic.{by_case, pick_yes, pick_no, fails, below_at, below_all, first_at, first_none, first_passes, first_fails}
use Rattle.bits.proofs.Texts.{run_bound, run_printable, run_ends}
use Rattle.shelf.specs.Limits.{most_text}
use Rattle.descriptor_record.specs.Read.{declared, place_on, byte_offends, offends}
use Rattle.descriptor_record.proofs.DescriptorPlaces.{place_up, place_in, offends_in, offends_code, offends_first, offends_head}

-- a test that fails at every number below n
none_below : (f : ℕ → Bool) (n : ℕ) → ((k : ℕ) → k < n → f k ≡ false) → all_below (fails f) n ≡ true
none_below f n h = below_all (fails f) n (λ k l. ap not (h k l))

-- of one descriptor, byte by byte
module _ (p : List ℕ) (k : ℕ) where
  pub offends_zero : (j : ℕ) → j < 2 → byte_offends p k j ≡ not (eqb (get_or p (k + j) 0) 0)
  unfolding byte_offends
  offends_zero j l = pick_yes (ltb j 2) _ _ (lt-ltb j 2 l)

  pub offends_length : byte_offends p k 2 ≡ not (leb (declared p k) most_text)
  unfolding byte_offends
  offends_length = refl

  pub offends_never : byte_offends p k 3 ≡ false
  unfolding byte_offends
  offends_never = refl

  pub offends_text : (i : ℕ) → byte_offends p k (4 + i) ≡ not (printable (get_or p (k + 4 + i) 0))
  unfolding byte_offends
  offends_text i =
      let e : k + (4 + i) ≡ k + 4 + i = omega arith in
      pick_no (ltb (4 + i) 2) _ _ (le-ltb (4 + i) 2 (omega arith))
      ∙ pick_no (eqb (4 + i) 2) _ _ (ne_eqb (4 + i) 2 (λ e. omega arith))
      ∙ pick_no (eqb (4 + i) 3) _ _ (ne_eqb (4 + i) 3 (λ e. omega arith))
      ∙ ap (λ (m : ℕ). not (printable (get_or p m 0))) e

  -- what the search says that stops within it, or at the end of its text of n bytes
  module _ (n : ℕ) {a : ℕ} (ea : a ≡ get_or p k 0) where
    zero_at : byte_offends p k 0 ≡ not (eqb a 0)
    zero_at = offends_zero 0 (omega arith) ∙ ap (λ (b : ℕ). not (eqb b 0)) (ap (λ (m : ℕ). get_or p m 0) (add-zero k) ∙ sym ea)

    pub at_first : (a ≡ 0 → ⊥) → Some 0 ≡ found_below (byte_offends p k) (4 + n)
    at_first h = found_at (byte_offends p k) (4 + n) 0 (omega arith) refl (zero_at ∙ ap not (ne_eqb a 0 h))

    module _ (za : a ≡ 0) {b : ℕ} (eb : b ≡ get_or p (k + 1) 0) where
      first_fine : byte_offends p k 0 ≡ false
      first_fine = zero_at ∙ ap not (eq-eqb a 0 za)

      second_at : byte_offends p k 1 ≡ not (eqb b 0)
      second_at = offends_zero 1 (omega arith) ∙ ap (λ (b : ℕ). not (eqb b 0)) (sym eb)

      pub at_second : (b ≡ 0 → ⊥) → Some 1 ≡ found_below (byte_offends p k) (4 + n)
      at_second h =
          found_at (byte_offends p k) (4 + n) 1 (omega arith) (none_below (byte_offends p k) 1 (λ j l. let e : j ≡ 0 = omega arith in ap (byte_offends p k) e ∙ first_fine)) (second_at ∙ ap not (ne_eqb b 0 h))

      module _ (zb : b ≡ 0) (en : n ≡ declared p k) where
        two_fine : (j : ℕ) → j < 2 → byte_offends p k j ≡ false
        two_fine zero l = first_fine
        two_fine (suc zero) l = second_at ∙ ap not (eq-eqb b 0 zb)
        two_fine (suc (suc j)) l = absurd (omega arith)

        pub at_length : most_text < n → Some 2 ≡ found_below (byte_offends p k) (4 + n)
        at_length h =
            found_at (byte_offends p k) (4 + n) 2 (omega arith) (none_below (byte_offends p k) 2 two_fine) (offends_length ∙ ap not (lt-leb (declared p k) most_text (omega (arith, en))))

        module _ (h : n ≤ most_text) {r : ℕ} (er : r ≡ printable_run p (k + 4) n) where
          before_text : (j : ℕ) → j < 4 + r → byte_offends p k j ≡ false
          before_text zero l = two_fine 0 (omega arith)
          before_text (suc zero) l = two_fine 1 (omega arith)
          before_text (suc (suc zero)) l = offends_length ∙ ap not (le-leb (declared p k) most_text (omega (arith, en)))
          before_text (suc (suc (suc zero))) l = offends_never
          before_text (suc (suc (suc (suc i)))) l =
              let e : suc (suc (suc (suc i))) ≡ 4 + i = omega arith in
              ap (byte_offends p k) e ∙ offends_text i ∙ ap not (run_printable p (k + 4) n i (omega (arith, er)))

          -- the search stops where the printable run ends, or at the end
          pub at_text : 4 + r ≡ first_below (byte_offends p k) (4 + n)
          at_text = by_case (ltb r n) (λ t. stopped (ltb-true r n t)) (λ t. passed (ltb-false r n t))
            where
              none_before : all_below (fails (byte_offends p k)) (4 + r) ≡ true
              none_before = none_below (byte_offends p k) (4 + r) before_text

              stopped : r < n → 4 + r ≡ first_below (byte_offends p k) (4 + n)
              stopped l =
                  let q : printable (get_or p (k + 4 + r) 0) ≡ false = rw er (run_ends p (k + 4) n (rw er at l)) in
                  sym (first_at (byte_offends p k) (4 + n) (4 + r) (omega arith) none_before (offends_text r ∙ ap not q))

              passed : n ≤ r → 4 + r ≡ first_below (byte_offends p k) (4 + n)
              passed l =
                  let e : r ≡ n = let u = run_bound p (k + 4) n in omega (arith, er) in
                  rw e (sym (first_none (byte_offends p k) (4 + n) (rw e at none_before)))

          pub text_stopped : r < n → Some (4 + r) ≡ found_below (byte_offends p k) (4 + n)
          text_stopped l = found_is (byte_offends p k) (4 + n) (4 + r) at_text (omega arith)

          pub text_passed : n ≤ r → None ≡ found_below (byte_offends p k) (4 + n)
          text_passed l = found_not (byte_offends p k) (4 + n) (omega (arith, at_text))

-- of all descriptors, of which the first i are walked
module _ (p : List ℕ) (n : ℕ) where
  -- before the first, once byte 1 is tested
  pub none_in_head : offends p n 1 ≡ false → all_below (fails (offends p n)) (place_on p 0) ≡ true
  none_in_head h = none_below (offends p n) 8 (λ k l. offends_head p n k l h)

  module _ (i : ℕ) (l : i < n) {k d : ℕ} (ek : k ≡ place_on p i) (ed : d ≡ declared p k) (t : all_below (fails (offends p n)) k ≡ true) where
    here : (q : ℕ) → q < 4 + d → offends p n (k + q) ≡ byte_offends p k q
    here q m = rw ek (offends_in p n i q l (rw (ed, ek) at m))

    -- nothing before the byte at which the search in it stops
    fine_to : (r : ℕ) → r ≤ first_below (byte_offends p k) (4 + d) → r ≤ 4 + d → (q : ℕ) → q < k + r → offends p n q ≡ false
    fine_to r a b q m =
        by_case (ltb q k) (λ e. not-true (offends p n q) (below_at (fails (offends p n)) k t q (ltb-true q k e)))
        (λ e.
        let u = ltb-false q k e in
        let v : q ≡ k + (q - k) = omega arith in
        ap (offends p n) v ∙ here (q - k) (omega arith) ∙ first_fails (byte_offends p k) (4 + d) (q - k) (omega arith))

    in_page : k + (4 + d) ≤ place_on p n
    in_page = rw (ed, ek) (place_in p i n l)

    -- the search stops in descriptor i
    pub stopped_in : {j : ℕ} → Some j ≡ found_below (byte_offends p k) (4 + d) → (k + j < place_on p n) × (Some (k + j) ≡ found_below (offends p n) (place_on p n))
    stopped_in {j} ej =
        let h = found_first (byte_offends p k) (4 + d) ej in
        let m : k + j < place_on p n = omega (arith, in_page, h.1) in
        let b : byte_offends p k j ≡ true = rw h.0 at (first_passes (byte_offends p k) (4 + d) (omega (arith, h.0, h.1))) in
        (m, found_at (offends p n) (place_on p n) (k + j) m (none_below (offends p n) (k + j) (fine_to j (omega (arith, h.0)) (omega (arith, h.1)))) (here j h.1 ∙ b))

    -- or goes on to the next
    pub none_in : None ≡ found_below (byte_offends p k) (4 + d) → all_below (fails (offends p n)) (k + (4 + d)) ≡ true
    none_in ej = none_below (offends p n) (k + (4 + d)) (fine_to (4 + d) (omega (arith, none_first (byte_offends p k) (4 + d) ej)) (omega arith))

  -- byte 1, and none at all
  pub stopped_first : {b : ℕ} → b ≡ get_or p 1 0 → (b ≡ 0 → ⊥) → Some 1 ≡ found_below (offends p n) (place_on p n)
  stopped_first e h =
      let u = place_up p 0 n (omega arith) in
      found_at (offends p n) (place_on p n) 1 (omega arith) (none_below (offends p n) 1 (λ k l. let z : k ≡ 0 = omega arith in ap (offends p n) z ∙ offends_code p n))
      (offends_first p n ∙ ap not (ne_eqb _ _ (λ q. h (e ∙ q))))

  pub first_clear_lem : {b : ℕ} → b ≡ get_or p 1 0 → b ≡ 0 → offends p n 1 ≡ false
  first_clear_lem e z = offends_first p n ∙ ap not (eq-eqb _ _ (sym e ∙ z))

  pub none_found : {k : ℕ} → k ≡ place_on p n → all_below (fails (offends p n)) k ≡ true → None ≡ found_below (offends p n) (place_on p n)
  none_found e t = found_none (offends p n) (place_on p n) (rw e at t)
