-- Where rows of any widths start. Assumes nothing.
use mathlib.Core.Path.{◌≡◌, refl, ap}
use Prim.Native.Nat.{ℕ, suc, ◌+◌, ◌*◌, ◌<◌, ◌≤◌}
use native.Mathlib.Nat.{add-zero}
use native.Mathlib.Omega.{arith}
use Rattle.bits.specs.Rows.{row_start}
use Rattle.bits.proofs.Sums.{sum_next, sum_same, sum_part, sum_bound}

module _ (k : ℕ) (w : ℕ → ℕ) where
  pub start_first : row_start k w 0 ≡ k
  unfolding row_start
  start_first = add-zero k

  pub start_step : (i : ℕ) → row_start k w (suc i) ≡ row_start k w i + w i
  unfolding row_start
  start_step i = omega arith

  -- a loop carries the start on to the row behind it
  pub start_next : (i : ℕ) {a n : ℕ} → a ≡ row_start k w i → n ≡ w i → a + n ≡ row_start k w (i + 1)
  unfolding row_start
  start_next i e q = omega (arith, sum_next w i refl refl)

  pub start_behind : (i : ℕ) → k ≤ row_start k w i
  unfolding row_start
  start_behind i = omega arith

  -- a row ends where all rows end, or before
  pub row_in : (n i : ℕ) → i < n → row_start k w i + w i ≤ row_start k w n
  unfolding row_start
  row_in n i l = omega (arith, sum_part w n i l)

  -- rows of no more than b bytes each
  pub start_bound : (b n : ℕ) → ((i : ℕ) → i < n → w i ≤ b) → row_start k w n ≤ k + b * n
  unfolding row_start
  start_bound b n h = omega (arith, sum_bound w b n h)

-- rows of the same widths start at the same places
pub start_same : (k : ℕ) (v w : ℕ → ℕ) (n : ℕ) → ((i : ℕ) → i < n → v i ≡ w i) → row_start k v n ≡ row_start k w n
unfolding row_start
start_same k v w n h = ap (λ (m : ℕ). k + m) (sum_same v w n h)
