-- The search over slots finds the first byte in page order that offends, and only bytes up to it decide. Assumes nothing.
use mathlib.Core.Path.{◌≡◌, refl, sym, ap, ap₂, ◌∙◌}
use mathlib.Core.Bool.{Bool, true, false, not}
use mathlib.Core.Logic.{⊎_elim}
use Prim.Native.Nat.{ℕ, ◌+◌, ◌-◌, ◌/◌, ◌%◌, ◌<◌, ◌≤◌}
use native.Mathlib.Nat.{eq-or-lt_of_le}
use native.Mathlib.Omega.{arith}
use lib.Dec.{eqb, ltb}
use borrow.Author.Tests.{lt-ltb, le-ltb, ltb-true, ltb-false, eqb-true}
use Rattle.bits.specs.Choice.{pick, first_of_four, first_below, refused_in, offence_in}
use Rattle.bits.proofs.Logic.{pick_yes, pick_no, by_case, fails, below_all, first_at, first_none, first_passes, first_fails, first_bound, first_small, four_first}
use Rattle.page.specs.Slots.{slot_place}
use Rattle.page.specs.Offends.{offends_on}

undo : (b : Bool) → not b ≡ false → b ≡ true
undo true e = refl
undo false e = sym e

redo : (b : Bool) → not b ≡ true → b ≡ false
redo true e = sym e
redo false e = refl

-- of four bytes those before the first that fails pass, and that one does not
passes : (h : ℕ → Bool) (j : ℕ) → j < first_of_four h → h j ≡ true
passes h j l = undo (h j) (first_fails (fails h) 4 j (rw (four_first h) at l))

stops : (h : ℕ → Bool) → first_of_four h < 4 → h (first_of_four h) ≡ false
stops h l =
    let e = four_first h in
    redo (h (first_of_four h)) (ap (fails h) e ∙ first_passes (fails h) 4 (rw e at l))

module _ (own : Bool) (f : ℕ → ℕ → Bool) where
  abbrev g : ℕ → Bool
  g = offends_on own f

  abbrev row : ℕ → ℕ
  row i = first_of_four (f i)

  head_passes : own ≡ true → (k : ℕ) → k < 8 → g k ≡ false
  head_passes e k l = ap not (pick_yes _ _ _ (lt-ltb k 8 l) ∙ go (eqb k 1))
    where
      go : (t : Bool) → pick t own true ≡ true
      go true = e
      go false = refl

  pub at_slot : (i j : ℕ) → j < 4 → g (slot_place i + j) ≡ not (f i j)
  at_slot i j l =
      let k : ℕ = slot_place i + j in
      let q : (k - 8) / 4 ≡ i = omega arith in
      let r : (k - 8) % 4 ≡ j = omega arith in
      ap not (pick_no _ _ _ (le-ltb k 8 (omega arith)) ∙ ap₂ f q r)

  -- nothing offends before byte j of slot i, if byte 1 is allowed and so is every byte of the slots before, and of this one before j
  none_before : own ≡ true → (i j : ℕ) → ((m : ℕ) → m < i → 4 ≤ row m) → j ≤ row i → (k : ℕ) → k < slot_place i + j → fails g k ≡ true
  none_before e i j h b k l = ap not (by_case (ltb k 8) (λ t. head_passes e k (ltb-true k 8 t)) (λ t. behind (ltb-false k 8 t)))
    where
      behind : 8 ≤ k → g k ≡ false
      behind p =
          let m : ℕ = (k - 8) / 4 in
          let n : ℕ = (k - 8) % 4 in
          let s : k ≡ slot_place m + n = omega arith in
          let small : n < 4 = omega arith in
          let there : m ≤ i = omega (arith, b, first_small (f i 0) (f i 1) (f i 2) (f i 3)) in
          let fine : n < row m = ⊎_elim (λ q. rw q (omega (arith, b, l, s, q))) (λ q. omega (arith, h m q, small)) (eq-or-lt_of_le there) in
          ap g s ∙ at_slot m n small ∙ ap not (passes (f m) n fine)

  pub first_offence_lem : (n : ℕ) → pick own (offence_in slot_place row n) 1 ≡ first_below g (slot_place n)
  first_offence_lem n = by_case own searched header
    where
      header : own ≡ false → pick own (offence_in slot_place row n) 1 ≡ first_below g (slot_place n)
      header e = pick_no _ _ _ e ∙ sym (first_at g (slot_place n) 1 (omega arith) refl (ap not e))

      full : (m : ℕ) → m < first_below (refused_in row) n → 4 ≤ row m
      full m l = ltb-false (row m) 4 (first_fails (refused_in row) n m l)

      searched : own ≡ true → pick own (offence_in slot_place row n) 1 ≡ first_below g (slot_place n)
      searched e = pick_yes _ _ _ e ∙ by_case (ltb i n) found missed
        where
          i : ℕ
          i = first_below (refused_in row) n

          found : ltb i n ≡ true → offence_in slot_place row n ≡ first_below g (slot_place n)
          found t =
              let l = ltb-true i n t in
              let r = ltb-true (row i) 4 (first_passes (refused_in row) n l) in
              pick_yes _ _ _ t
              ∙ sym (first_at g (slot_place n) (slot_place i + row i) (omega (arith, l, r))
              (below_all (fails g) (slot_place i + row i) (none_before e i (row i) full (omega arith)))
              (at_slot i (row i) r ∙ ap not (stops (f i) r)))

          missed : ltb i n ≡ false → offence_in slot_place row n ≡ first_below g (slot_place n)
          missed t =
              let q : i ≡ n = omega (arith, ltb-false i n t, first_bound (refused_in row) n) in
              pick_no _ _ _ t
              ∙ sym (first_none g (slot_place n) (below_all (fails g) (slot_place n) (λ k l. none_before e n 0 (λ m w. full m (rw q w)) (omega arith) k (omega (arith, l)))))

-- pages whose bytes are tested alike up to k
module _ (own own' : Bool) (f f' : ℕ → ℕ → Bool) (k : ℕ) (a : 1 ≤ k → own ≡ own') (b : (i j : ℕ) → j < 4 → slot_place i + j ≤ k → f i j ≡ f' i j) where
  pub offends_alike : (m : ℕ) → m ≤ k → offends_on own f m ≡ offends_on own' f' m
  offends_alike m l = by_case (ltb m 8) before (λ t. behind (ltb-false m 8 t))
    where
      first : (t : Bool) → eqb m 1 ≡ t → pick t own true ≡ pick t own' true
      first true e = a (omega (arith, eqb-true m 1 e))
      first false e = refl

      before : ltb m 8 ≡ true → offends_on own f m ≡ offends_on own' f' m
      before h =
          let x = pick_yes (ltb m 8) (pick (eqb m 1) own true) (f ((m - 8) / 4) ((m - 8) % 4)) h in
          let y = pick_yes (ltb m 8) (pick (eqb m 1) own' true) (f' ((m - 8) / 4) ((m - 8) % 4)) h in
          ap not (x ∙ first (eqb m 1) refl ∙ sym y)

      behind : 8 ≤ m → offends_on own f m ≡ offends_on own' f' m
      behind h =
          let i : ℕ = (m - 8) / 4 in
          let j : ℕ = (m - 8) % 4 in
          let s : m ≡ slot_place i + j = omega arith in
          let n : j < 4 = omega arith in
          ap (offends_on own f) s ∙ at_slot own f i j n ∙ ap not (b i j n (omega arith)) ∙ sym (at_slot own' f' i j n) ∙ ap (offends_on own' f') (sym s)
