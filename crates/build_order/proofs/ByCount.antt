-- The order by count and dictionary: two that are each not after the other are one, and it goes part by part. Assumes nothing.
use mathlib.Core.Path.{◌≡◌, refl, sym, ◌∙◌}
use mathlib.Core.List.{List, [], ◌++◌}
use mathlib.Core.Logic.{inl, inr}
use Prim.Native.Nat.{ℕ, zero, suc, ◌+◌, ◌<◌}
use native.Mathlib.Omega.{arith}
use lib.ListN.{length}
use Rattle.bits.specs.Choice.{sum_below}
use Rattle.bits.specs.Rows.{joined}
use Rattle.bits.proofs.Rows.{length-joined}
use Rattle.build_order.specs.Order.{NotAfter}
use Rattle.build_order.proofs.Dictionary.{order_refl, order_trans, order_same, order_append}

pub after_refl : (m : ℕ) (p : List ℕ) → NotAfter m p m p
after_refl m p = inr (refl, order_refl p)

pub after_trans : (l m n : ℕ) (p q r : List ℕ) → NotAfter l p m q → NotAfter m q n r → NotAfter l p n r
after_trans l m n p q r (inl h) (inl k) = inl (omega arith)
after_trans l m n p q r (inl h) (inr k) = inl (omega (arith, h, k.0))
after_trans l m n p q r (inr h) (inl k) = inl (omega (arith, k, h.0))
after_trans l m n p q r (inr h) (inr k) = inr (h.0 ∙ k.0, order_trans p q r h.1 k.1)

pub after_same : (m n : ℕ) (p q : List ℕ) → NotAfter m p n q → NotAfter n q m p → (m ≡ n) × (p ≡ q)
after_same m n p q (inl h) (inl k) = absurd (omega arith)
after_same m n p q (inl h) (inr k) = absurd (omega (arith, h, k.0))
after_same m n p q (inr h) (inl k) = absurd (omega (arith, k, h.0))
after_same m n p q (inr h) (inr k) = (h.0, order_same p q h.1 k.1)

pub after_append : (k l m n : ℕ) (p q x y : List ℕ) → length p ≡ length q → NotAfter k p l q → NotAfter m x n y → NotAfter (k + m) (p ++ x) (l + n) (q ++ y)
after_append k l m n p q x y e (inl h) (inl i) = inl (omega arith)
after_append k l m n p q x y e (inl h) (inr i) = inl (omega (arith, h, i.0))
after_append k l m n p q x y e (inr h) (inl i) = inl (omega (arith, i, h.0))
after_append k l m n p q x y e (inr h) (inr i) = inr (omega (arith, h.0, i.0), order_append p q x y e h.1 i.1)

-- rows of the same width: row by row
module _ (count : List ℕ → ℕ) (w : ℕ) (f g : ℕ → List ℕ) (hf : (i : ℕ) → length (f i) ≡ w) (hg : (i : ℕ) → length (g i) ≡ w) where
  pub after_rows : (n : ℕ) → ((i : ℕ) → i < n → NotAfter (count (f i)) (f i) (count (g i)) (g i))
      → NotAfter (sum_below (λ i. count (f i)) n) (joined f n) (sum_below (λ i. count (g i)) n) (joined g n)
  after_rows zero h = after_refl 0 []
  after_rows (suc n) h =
      after_append (sum_below (λ i. count (f i)) n) (sum_below (λ i. count (g i)) n) (count (f n)) (count (g n)) (joined f n) (joined g n) (f n) (g n)
      (length-joined f w hf n ∙ sym (length-joined g w hg n))
      (after_rows n (λ i l. h i (omega arith)))
      (h n (omega arith))
