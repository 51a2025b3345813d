-- Rows of four bytes put at places of a list, one after the other: what is read back, and what stays. Assumes nothing.
use mathlib.Core.Path.{◌≡◌, sym, ap, ◌∙◌}
use mathlib.Core.List.{List}
use mathlib.Core.Logic.{◌⊎◌, inl, inr, ⊎_elim}
use Prim.Native.Nat.{ℕ, zero, suc, ◌+◌, ◌*◌, ◌<◌, ◌≤◌}
use native.Mathlib.Nat.{add-zero, zero-add}
use native.Mathlib.Omega.{arith}
use lib.ListN.{length, get_or, take}
use Rattle.bits.specs.Places.{four_at, put_four, fours_put}
use Rattle.bits.specs.Rows.{joined}
use Rattle.bits.proofs.Rows.{joined_four, four_bytes, four_same}
use Rattle.bits.proofs.FourPut.{Outside}
use Rattle.bits.proofs.RowsPut.{length-rows, bytes_kept, rows_front, row_read, rows_again, rows_alike, rows_next, rows_length}

-- the four bytes from m on are none of the four from k on
abbrev pub Apart : ℕ → ℕ → Type 0
Apart m k = (m + 4 ≤ k) ⊎ (k + 4 ≤ m)

outside : (m k i : ℕ) → Apart m k → i < 4 → Outside (m + i) k
outside m k i h l = ⊎_elim (λ (b : m + 4 ≤ k). inl (omega arith)) (λ (b : k + 4 ≤ m). inr (omega arith)) h

-- a byte of four that are the same
pub four_byte : (x y : List ℕ) (m : ℕ) → four_at x m ≡ four_at y m → (k : ℕ) → k < 4 → get_or x (m + k) 0 ≡ get_or y (m + k) 0
four_byte x y m e zero l = rw add-zero (ap (λ (r : List ℕ). get_or r 0 0) e)
four_byte x y m e (suc zero) l = ap (λ (r : List ℕ). get_or r 1 0) e
four_byte x y m e (suc (suc zero)) l = ap (λ (r : List ℕ). get_or r 2 0) e
four_byte x y m e (suc (suc (suc zero))) l = ap (λ (r : List ℕ). get_or r 3 0) e
four_byte x y m e (suc (suc (suc (suc k)))) l = absurd (omega arith)

module _ (at : ℕ → ℕ) (f : ℕ → List ℕ) (s : List ℕ) where
  abbrev row : ℕ → List ℕ
  row i = four_at (f i) 0

  pub length-fours : (n : ℕ) → length (fours_put at f s n) ≡ length s
  length-fours n = length-rows at row s n

  -- a byte that stands in no row
  pub byte_kept : (n i : ℕ) → ((k : ℕ) → k < n → Outside i (at k)) → get_or (fours_put at f s n) i 0 ≡ get_or s i 0
  byte_kept n i h = bytes_kept at row s n i h

  -- four bytes that stand in no row
  pub four_kept : (n m : ℕ) → ((k : ℕ) → k < n → Apart m (at k)) → four_at (fours_put at f s n) m ≡ four_at s m
  four_kept n m h = four_same (fours_put at f s n) s m m (λ i l. byte_kept n (m + i) (λ k b. outside m (at k) i (h k b) l))

  -- what stands before all rows
  pub front_kept : (m n : ℕ) → ((k : ℕ) → k < n → m ≤ at k) → take m (fours_put at f s n) ≡ take m s
  front_kept m n h = rows_front at row s m n h

  -- a row is read back, unless a later one stands on it
  pub row_back : (n k : ℕ) → k < n → at k + 4 ≤ length s → ((j : ℕ) → k < j → j < n → Apart (at k) (at j))
      → four_at (fours_put at f s n) (at k) ≡ four_at (f k) 0
  row_back n k l r h =
      four_same (fours_put at f s n) (row k) (at k) 0
      (λ i b.
      row_read at row s n k i l b r (λ j p q. outside (at k) (at j) i (h j p q) b)
      ∙ ap (λ (j : ℕ). get_or (row k) j 0) (sym (zero-add i)))

  -- nothing is put that does not stand already
  pub rows_same : (n : ℕ) → ((k : ℕ) → k < n → four_at (f k) 0 ≡ four_at s (at k)) → fours_put at f s n ≡ s
  rows_same n h = rows_again at row s n (λ k l. h k l ∙ sym (four_bytes s (at k)))

-- a loop puts one row more
module _ (at : ℕ → ℕ) (f : ℕ → List ℕ) (s : List ℕ) (n : ℕ) {o : List ℕ} (p : o ≡ fours_put at f s n) where
  pub fours_next : {e r : List ℕ} {k : ℕ} → k ≡ at n → e ≡ f n → r ≡ put_four o k e → r ≡ fours_put at f s (n + 1)
  unfolding put_four
  fours_next q h e = rows_next at (λ i. four_at (f i) 0) s n p q (ap (λ (x : List ℕ). four_at x 0) h) e

  pub fours_length : length o ≡ length s
  fours_length = rows_length at (λ i. four_at (f i) 0) s n p

-- the rows as one list
pub fours_joined : (at : ℕ → ℕ) (f : ℕ → List ℕ) → ((k : ℕ) → length (f k) ≡ 4) → (s : List ℕ) (n : ℕ)
    → fours_put at f s n ≡ fours_put at (λ k. four_at (joined f n) (4 * k)) s n
fours_joined at f h s n =
    rows_alike at (λ k. four_at (f k) 0) (λ k. four_at (joined f n) (4 * k)) s n (λ k l. ap (λ (x : List ℕ). four_at x 0) (sym (joined_four f h n k l)))
