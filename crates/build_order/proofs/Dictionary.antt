-- The dictionary order: two lists that are each not behind the other are one, and bytes stand as the numbers that they say.
-- Assumes nothing.
use mathlib.Core.Path.{◌≡◌, refl, ap₂, ◌∙◌}
use mathlib.Core.List.{List, [], ◌∷◌, ◌++◌}
use mathlib.Core.Logic.{◌⊎◌, inl, inr, ⊎_elim}
use Prim.Native.Nat.{ℕ, ◌+◌, ◌*◌, ◌<◌, ◌≤◌}
use native.Mathlib.Nat.{eq-or-lt_of_le}
use native.Mathlib.Omega.{arith}
use lib.ListN.{length}
use Rattle.bits.specs.Numbers.{big_from, big, Bytes}
use Rattle.build_order.specs.Order.{InOrder}

pub order_refl : (p : List ℕ) → InOrder p p
order_refl [] = tt
order_refl (a ∷ p) = inr (refl, order_refl p)

pub order_trans : (p q r : List ℕ) → InOrder p q → InOrder q r → InOrder p r
order_trans [] q r h k = tt
order_trans (a ∷ p) [] r h k = absurd h
order_trans (a ∷ p) (b ∷ q) [] h k = k
order_trans (a ∷ p) (b ∷ q) (c ∷ r) (inl h) (inl k) = inl (omega arith)
order_trans (a ∷ p) (b ∷ q) (c ∷ r) (inl h) (inr k) = inl (omega arith)
order_trans (a ∷ p) (b ∷ q) (c ∷ r) (inr h) (inl k) = inl (omega arith)
order_trans (a ∷ p) (b ∷ q) (c ∷ r) (inr h) (inr k) = inr (h.0 ∙ k.0, order_trans p q r h.1 k.1)

pub order_same : (p q : List ℕ) → InOrder p q → InOrder q p → p ≡ q
order_same [] [] h k = refl
order_same [] (b ∷ q) h k = absurd k
order_same (a ∷ p) [] h k = absurd h
order_same (a ∷ p) (b ∷ q) (inl h) (inl k) = absurd (omega arith)
order_same (a ∷ p) (b ∷ q) (inl h) (inr k) = absurd (omega (arith, h, k.0))
order_same (a ∷ p) (b ∷ q) (inr h) (inl k) = absurd (omega (arith, k, h.0))
order_same (a ∷ p) (b ∷ q) (inr h) (inr k) = ap₂ ◌∷◌ h.0 (order_same p q h.1 k.1)

-- parts of the same length, one after the other
pub order_append : (p q x y : List ℕ) → length p ≡ length q → InOrder p q → InOrder x y → InOrder (p ++ x) (q ++ y)
order_append [] [] x y n h k = k
order_append [] (b ∷ q) x y n h k = absurd (omega arith)
order_append (a ∷ p) [] x y n h k = absurd h
order_append (a ∷ p) (b ∷ q) x y n (inl h) k = inl h
order_append (a ∷ p) (b ∷ q) x y n (inr h) k = inr (h.0, order_append p q x y (omega arith) h.1 k)

-- what stands behind counts only where the fronts are the same
pub order_front : (p q x y : List ℕ) → length p ≡ length q → InOrder p q → (p ≡ q → InOrder x y) → InOrder (p ++ x) (q ++ y)
order_front [] [] x y n h k = k refl
order_front [] (b ∷ q) x y n h k = absurd (omega arith)
order_front (a ∷ p) [] x y n h k = absurd h
order_front (a ∷ p) (b ∷ q) x y n (inl h) k = inl h
order_front (a ∷ p) (b ∷ q) x y n (inr h) k = inr (h.0, order_front p q x y (omega arith) h.1 (λ e. k (ap₂ ◌∷◌ h.0 e)))

-- numbers that bytes say after those that said m and n, as many after each
from_number : (p q : List ℕ) (m n : ℕ) → length p ≡ length q → Bytes p → Bytes q → big_from m p ≤ big_from n q → (m < n) ⊎ ((m ≡ n) × InOrder p q)
from_number [] [] m n e hp hq h = ⊎_elim (λ (k : m ≡ n). inr (k, tt)) (λ (k : m < n). inl k) (eq-or-lt_of_le h)
from_number [] (b ∷ q) m n e hp hq h = absurd (omega arith)
from_number (a ∷ p) [] m n e hp hq h = absurd (omega arith)
from_number (a ∷ p) (b ∷ q) m n e hp hq h = go (from_number p q (m * 256 + a) (n * 256 + b) (omega arith) hp.1 hq.1 h)
  where
    equal : m * 256 + a ≡ n * 256 + b → InOrder p q → (m ≡ n) × InOrder (a ∷ p) (b ∷ q)
    equal k r = let x : m ≡ n = omega (arith, hp.0, hq.0) in let y : a ≡ b = omega arith in (x, inr (y, r))

    less : m * 256 + a < n * 256 + b → (m < n) ⊎ ((m ≡ n) × InOrder (a ∷ p) (b ∷ q))
    less k =
        ⊎_elim (λ (x : m ≡ n). inr (x, inl (let y : a < b = omega arith in y))) (λ (x : m < n). inl x)
        (eq-or-lt_of_le (let y : m ≤ n = omega (arith, hp.0, hq.0) in y))

    go : (m * 256 + a < n * 256 + b) ⊎ ((m * 256 + a ≡ n * 256 + b) × InOrder p q) → (m < n) ⊎ ((m ≡ n) × InOrder (a ∷ p) (b ∷ q))
    go (inl k) = less k
    go (inr k) = inr (equal k.0 k.1)

-- bytes stand in the dictionary as the big-endian numbers that they say, at every width
pub by_number : (p q : List ℕ) → length p ≡ length q → Bytes p → Bytes q → big p ≤ big q → InOrder p q
by_number p q e hp hq h = ⊎_elim (λ (k : 0 < 0). absurd (omega arith)) (λ k. k.1) (from_number p q 0 0 e hp hq h)
