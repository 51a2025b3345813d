-- What a search found, from its tests, and what that says of them. Assumes nothing.
use Rattle.std.specs.Prelude.{Some, None}
use mathlib.Core.Path.{◌≡◌, refl, sym, ap, ◌∙◌}
use mathlib.Core.Bool.{Bool, true, false, not}
use Prim.Native.Nat.{ℕ, ◌<◌, ◌≤◌}
use native.Mathlib.Omega.{arith}
use lib.Dec.{ltb}
use borrow.Author.Tests.{lt-ltb, le-ltb, ltb-true, ltb-false}
use Rattle.bits.specs.Choice.{pick, all_below, first_below}
use Rattle.bits.specs.Found.{found_below}
use Rattle.bits.proofs.Logic.{pick_yes, pick_no, fails, below_all, first_at, first_none, first_bound, first_fails}

module _ (f : ℕ → Bool) (n : ℕ) where
  -- where the first is known
  pub found_is : (k : ℕ) → k ≡ first_below f n → k < n → Some k ≡ found_below f n
  unfolding found_below
  found_is k q l = ap Some q ∙ sym (pick_yes _ _ _ (lt-ltb (first_below f n) n (omega (arith, q))))

  pub found_not : n ≤ first_below f n → None ≡ found_below f n
  unfolding found_below
  found_not l = sym (pick_no _ _ _ (le-ltb (first_below f n) n l))

  -- the search stopped at k, or at the bound
  pub found_at : (k : ℕ) → k < n → all_below (fails f) k ≡ true → f k ≡ true → Some k ≡ found_below f n
  found_at k l t e = found_is k (sym (first_at f n k l t e)) l

  pub found_none : all_below (fails f) n ≡ true → None ≡ found_below f n
  found_none t = found_not (omega (arith, first_none f n t))

  -- and back
  pub found_first : {k : ℕ} → Some k ≡ found_below f n → (first_below f n ≡ k) × (k < n)
  unfolding found_below
  found_first {k} e = go (ltb (first_below f n) n) (λ t. ltb-true (first_below f n) n t) e
    where
      go : (t : Bool) → (t ≡ true → first_below f n < n) → Some k ≡ pick t (Some (first_below f n)) None → (first_below f n ≡ k) × (k < n)
      go true l q = let r : first_below f n ≡ k = cc in let m = l refl in (r, omega arith)
      go false l q = let z : ◌≡◌ {A = ℕ} 0 1 = cc in absurd (omega arith)

  pub none_first : None ≡ found_below f n → first_below f n ≡ n
  unfolding found_below
  none_first e = go (ltb (first_below f n) n) (λ t. ltb-false (first_below f n) n t) e
    where
      go : (t : Bool) → (t ≡ false → n ≤ first_below f n) → None ≡ pick t (Some (first_below f n)) None → first_below f n ≡ n
      go true l q = let z : ◌≡◌ {A = ℕ} 0 1 = cc in absurd (omega arith)
      go false l q = let m = l refl in omega (arith, first_bound f n)

  -- so no number before it passes
  pub none_passes : None ≡ found_below f n → all_below (fails f) n ≡ true
  none_passes e = below_all (fails f) n (λ k l. ap not (first_fails f n k (omega (arith, none_first e))))
