-- What each number of a list keeps to; bytes among it. Assumes nothing.
use Prim.Native.Nat.{ℕ, zero, suc, ◌+◌, ◌<◌}
use mathlib.Core.List.{List, [], ◌∷◌, ◌++◌}
use native.Mathlib.Nat.{not-suc-le-zero, le_of_suc-le-suc}
use native.Mathlib.Omega.{arith}
use lib.ListN.{length, get_or}
use Rattle.bits.specs.Numbers.{Each, Bytes}
use Rattle.bits.specs.Places.{four_at}
use Rattle.bits.specs.Rows.{joined, one_at, bytes_at}

module _ (P : ℕ → Type 0) where
  pub each_append : (a b : List ℕ) → Each P a → Each P b → Each P (a ++ b)
  each_append [] b p q = q
  each_append (x ∷ a) b p q = (p.0, each_append a b p.1 q)

  pub each_joined : (g : ℕ → List ℕ) (n : ℕ) → ((i : ℕ) → i < n → Each P (g i)) → Each P (joined g n)
  each_joined g zero h = tt
  each_joined g (suc n) h = each_append (joined g n) (g n) (each_joined g n (λ i l. h i (omega arith))) (h n (omega arith))

  pub each_bytes : (s : List ℕ) (k n : ℕ) → ((i : ℕ) → i < n → P (get_or s (k + i) 0)) → Each P (bytes_at s k n)
  unfolding bytes_at
  each_bytes s k n h = each_joined (one_at s k) n (λ i l. (h i l, tt))

  pub each_get : (s : List ℕ) (i : ℕ) → Each P s → i < length s → P (get_or s i 0)
  each_get [] i p l = absurd (not-suc-le-zero l)
  each_get (x ∷ s) zero p l = p.0
  each_get (x ∷ s) (suc i) p l = each_get s i p.1 (le_of_suc-le-suc l)

  -- past the end of a list stands 0
  pub each_at : (s : List ℕ) (i : ℕ) → P 0 → Each P s → P (get_or s i 0)
  each_at [] i z p = z
  each_at (x ∷ s) zero z p = p.0
  each_at (x ∷ s) (suc i) z p = each_at s i z p.1

pub byte_small : (s : List ℕ) → Bytes s → (k : ℕ) → get_or s k 0 < 256
byte_small s h k = each_at (λ b. b < 256) s k (omega arith) h

pub bytes_of : (s : List ℕ) → ((i : ℕ) → get_or s i 0 < 256) → Bytes s
bytes_of [] h = tt
bytes_of (a ∷ s) h = (h 0, bytes_of s (λ i. h (suc i)))

pub four_small : (s : List ℕ) → Bytes s → (k : ℕ) → Bytes (four_at s k)
four_small s h k = (byte_small s h k, (byte_small s h (k + 1), (byte_small s h (k + 2), (byte_small s h (k + 3), tt))))
