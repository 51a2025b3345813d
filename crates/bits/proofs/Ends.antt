-- Parts that stand one after the other, told by where each ends: the search for the part in which a number stands. Assumes nothing.
use mathlib.Core.Path.{◌≡◌, refl, sym, ap, ◌∙◌}
use mathlib.Core.Bool.{Bool, true, not}
use Prim.Native.Nat.{ℕ, zero, suc, ◌+◌, ◌<◌, ◌≤◌}
use native.Mathlib.Numerals.{add-one}
use native.Mathlib.Omega.{arith}
use lib.Dec.{ltb}
use borrow.Author.Tests.{ltb-true, ltb-false, lt-ltb, le-ltb}
use Rattle.bits.specs.Choice.{first_below}
use Rattle.bits.proofs.Logic.{by_case, fails, below_all, first_at, first_none, first_passes, first_fails}

-- part t starts at g t and ends at g (t + 1)
module _ (g : ℕ → ℕ) (i n : ℕ) where
  abbrev pub before : ℕ → Bool
  before t = ltb i (g (t + 1))

  abbrev pub found : ℕ
  found = first_below before n

  -- the number does not stand before its part
  pub part_start : g 0 ≤ i → g found ≤ i
  part_start l = go found refl
    where
      go : (t : ℕ) → found ≡ t → g t ≤ i
      go zero e = l
      go (suc t) e = rw (← (add-one t)) (ltb-false i (g (t + 1)) (first_fails before n t (omega arith)))

  -- nor behind it, where there is one
  pub part_end : found < n → i < g (found + 1)
  part_end l = ltb-true i (g (found + 1)) (first_passes before n l)

  -- there is one, unless the number stands behind all
  pub part_there : g 0 ≤ i → i < g n → found < n
  part_there z l = by_case (ltb found n) (ltb-true found n) (λ e. absurd (go n refl (ltb-false found n e)))
    where
      go : (m : ℕ) → m ≡ n → n ≤ found → ⊥
      go zero e k = omega (arith, ap g e)
      go (suc m) e k =
          let q : suc m ≡ m + 1 = sym (add-one m) in
          let f = ltb-false i (g (m + 1)) (first_fails before n m (omega arith)) in
          omega (arith, f, ap g (sym q ∙ e))

  -- and where no part starts before the one before it, it is the only one
  module _ (up : (t m : ℕ) → t ≤ m → g t ≤ g m) where
    later : (t : ℕ) → g t ≤ i → (k : ℕ) → k < t → fails before k ≡ true
    later t l k m = ap not (le-ltb i (g (k + 1)) (let u = up (k + 1) t (omega arith) in omega arith))

    pub part_is : (t : ℕ) → t < n → g t ≤ i → i < g (t + 1) → found ≡ t
    part_is t l a b = first_at before n t l (below_all (fails before) t (later t a)) (lt-ltb i (g (t + 1)) b)

    pub part_none : g n ≤ i → found ≡ n
    part_none l = first_none before n (below_all (fails before) n (later n l))
