-- Rows of any widths put into a list, one after the other. Where there is room they stand there, and what stood behind them stays.
-- Assumes nothing.
use mathlib.Core.Path.{◌≡◌, refl, sym, ap, ◌∙◌}
use mathlib.Core.List.{List, [], ◌++◌, append_assoc, append-nil}
use mathlib.Core.Logic.{⊎_elim}
use Prim.Native.Nat.{ℕ, zero, suc, ◌+◌, ◌-◌, ◌<◌, ◌≤◌}
use native.Mathlib.Nat.{not-suc-le-zero, le_of_suc-le-suc, eq-or-lt_of_le}
use native.Mathlib.Numerals.{add-one}
use native.Mathlib.Omega.{arith}
use lib.ListN.{length, get_or, take, drop, replicate, length-append, length-replicate, replicate-append-replicate}
use lib.Seq.{drop_at, length-take-le}
use borrow.Author.Tests.{le-leb}
use Rattle.bits.specs.Places.{four_at, put_four, fours_put}
use Rattle.bits.specs.Rows.{joined, bytes_at, put_bytes, rows_put}
use Rattle.bits.proofs.Logic.{pick_yes}
use Rattle.bits.proofs.Rows.{EndToEnd, rows_end, as_four, bytes_next, four_put_lem}
use Rattle.bits.proofs.BytesPut.{Beside, length-put_bytes, bytes_other, bytes_put_lem, take_put, bytes_again_lem}

-- one row behind those that stand
pub put_behind : (g s f : List ℕ) (k : ℕ) → length g ≡ k → k + length f ≤ length s
    → put_bytes (g ++ drop (length g) s) k f ≡ g ++ f ++ drop (length (g ++ f)) s
put_behind g s f k e h =
    let l : length (g ++ f) ≡ k + length f = length-append g f ∙ rw e in
    ap (λ (m : ℕ). put_bytes (g ++ drop m s) k f) e ∙ bytes_next g s f k e h ∙ ap (λ (m : ℕ). g ++ f ++ drop m s) (sym l)

pub four_behind : (g s f : List ℕ) (k : ℕ) → length g ≡ k → length f ≡ 4 → k + 4 ≤ length s
    → put_four (g ++ drop (length g) s) k f ≡ g ++ f ++ drop (length (g ++ f)) s
four_behind g s f k e l h = four_put_lem (g ++ drop (length g) s) k f l ∙ put_behind g s f k e (rw l h)

-- two rows, the second behind the first, are one
pub put_two : (s a b : List ℕ) (k m : ℕ) → m ≡ k + length a → m + length b ≤ length s → put_bytes (put_bytes s k a) m b ≡ put_bytes s k (a ++ b)
unfolding put_bytes
put_two s a b k m e h =
    let g = take k s ++ a in
    let l : length g ≡ m = length-append (take k s) a ∙ rw (length-take-le k s (omega arith)) (sym e) in
    let n : m + length b ≡ k + length (a ++ b) = omega (arith, length-append a b) in
    let first = pick_yes _ _ _ (le-leb (k + length a) (length s) (omega arith)) in
    ap (λ (o : List ℕ). put_bytes o m b) (first ∙ ap (λ (i : ℕ). g ++ drop i s) (sym e))
    ∙ bytes_next g s b m l h
    ∙ ap (λ (i : ℕ). g ++ b ++ drop i s) n
    ∙ ap (λ (r : List ℕ). r ++ drop (k + length (a ++ b)) s) (append_assoc (take k s) a b)
    ∙ sym (pick_yes _ _ _ (le-leb (k + length (a ++ b)) (length s) (omega arith)))

-- zeros stay behind what is put to their front
pub put_zeros : (f : List ℕ) (n m : ℕ) → length f ≡ n → n ≤ m → put_bytes (replicate m 0) 0 f ≡ f ++ replicate (m - n) 0
put_zeros f n m e h =
    let z : List ℕ = replicate m 0 in
    let q : m ≡ n + (m - n) = omega arith in
    let c : z ≡ replicate n 0 ++ replicate (m - n) 0 = ap (λ (i : ℕ). replicate i 0) q ∙ sym (replicate-append-replicate n (m - n) 0) in
    put_behind [] z f 0 refl (rw (e, length-replicate {A = ℕ} m 0) (omega arith))
    ∙ ap (λ (i : ℕ). f ++ drop i z) e
    ∙ ap (λ (r : List ℕ). f ++ r) (ap (drop n) c ∙ drop_at (replicate n 0) (replicate (m - n) 0) n (length-replicate n 0))

module _ (at : ℕ → ℕ) (f : ℕ → List ℕ) (s : List ℕ) where
  pub length-rows : (n : ℕ) → length (rows_put at f s n) ≡ length s
  length-rows zero = refl
  length-rows (suc n) = length-put_bytes (rows_put at f s n) (at n) (f n) ∙ length-rows n

  -- a byte that stands in no row
  pub bytes_kept : (n i : ℕ) → ((k : ℕ) → k < n → Beside i (at k) (length (f k))) → get_or (rows_put at f s n) i 0 ≡ get_or s i 0
  bytes_kept zero i h = refl
  bytes_kept (suc n) i h = bytes_other (rows_put at f s n) (at n) (f n) i (h n (omega arith)) ∙ bytes_kept n i (λ k l. h k (omega arith))

  -- what stands before all rows
  pub rows_front : (m n : ℕ) → ((k : ℕ) → k < n → m ≤ at k) → take m (rows_put at f s n) ≡ take m s
  rows_front m zero h = refl
  rows_front m (suc n) h = take_put (rows_put at f s n) (at n) (f n) m (h n (omega arith)) ∙ rows_front m n (λ k l. h k (omega arith))

  -- a byte of a row is read back, unless a later row stands on it
  pub row_read : (n k i : ℕ) → k < n → i < length (f k) → at k + length (f k) ≤ length s
      → ((j : ℕ) → k < j → j < n → Beside (at k + i) (at j) (length (f j))) → get_or (rows_put at f s n) (at k + i) 0 ≡ get_or (f k) i 0
  row_read zero k i l b r h = absurd (not-suc-le-zero l)
  row_read (suc n) k i l b r h =
      ⊎_elim (λ e. last e)
      (λ (m : k < n).
      bytes_other (rows_put at f s n) (at n) (f n) (at k + i) (h n m (omega arith)) ∙ row_read n k i m b r (λ j p q. h j p (omega arith)))
      (eq-or-lt_of_le (le_of_suc-le-suc l))
    where
      last : k ≡ n → get_or (put_bytes (rows_put at f s n) (at n) (f n)) (at k + i) 0 ≡ get_or (f k) i 0
      last e =
          let small : i < length (f n) = rw (← e) b in
          let room : at n + length (f n) ≤ length (rows_put at f s n) = rw (length-rows n, ← e) r in
          ap (λ (j : ℕ). get_or (put_bytes (rows_put at f s n) (at n) (f n)) (at j + i) 0) e
          ∙ bytes_put_lem (rows_put at f s n) (at n) (f n) i small room
          ∙ ap (λ (j : ℕ). get_or (f j) i 0) (sym e)

  -- nothing is put that does not stand already
  pub rows_again : (n : ℕ) → ((k : ℕ) → k < n → f k ≡ bytes_at s (at k) (length (f k))) → rows_put at f s n ≡ s
  rows_again zero h = refl
  rows_again (suc n) h =
      ap (λ (o : List ℕ). put_bytes o (at n) (f n)) (rows_again n (λ k l. h k (omega arith)))
      ∙ ap (put_bytes s (at n)) (h n (omega arith))
      ∙ bytes_again_lem s (at n) (length (f n))

-- the same rows
pub rows_alike : (at : ℕ → ℕ) (f g : ℕ → List ℕ) (s : List ℕ) (n : ℕ) → ((k : ℕ) → k < n → f k ≡ g k) → rows_put at f s n ≡ rows_put at g s n
rows_alike at f g s zero h = refl
rows_alike at f g s (suc n) h = rw (rows_alike at f g s n (λ k l. h k (omega arith)), h n (omega arith))

-- rows of four bytes
pub fours_rows : (at : ℕ → ℕ) (f : ℕ → List ℕ) (s : List ℕ) → ((i : ℕ) → length (f i) ≡ 4) → (n : ℕ) → fours_put at f s n ≡ rows_put at f s n
fours_rows at f s h n = rows_alike at (λ i. four_at (f i) 0) f s n (λ k l. sym (as_four (f k) (h k)))

-- a loop puts one row more
module _ (at : ℕ → ℕ) (f : ℕ → List ℕ) (s : List ℕ) (n : ℕ) {o : List ℕ} (p : o ≡ rows_put at f s n) where
  pub rows_next : {e r : List ℕ} {k : ℕ} → k ≡ at n → e ≡ f n → r ≡ put_bytes o k e → r ≡ rows_put at f s (n + 1)
  rows_next q h e = e ∙ rw (add-one, p, q, h)

  pub rows_length : length o ≡ length s
  rows_length = ap length p ∙ length-rows at f s n

-- all rows, behind those that stand
pub rows_behind : (at w : ℕ → ℕ) (f : ℕ → List ℕ) → EndToEnd at w f → (g : List ℕ) → length g ≡ at 0 → (s : List ℕ) (n : ℕ) → at n ≤ length s
    → rows_put at f (g ++ drop (length g) s) n ≡ g ++ joined f n ++ drop (length (g ++ joined f n)) s
rows_behind at w f h g e s zero l = rw (append-nil g)
rows_behind at w f h g e s (suc n) l =
    let room : at n + length (f n) ≤ length s = omega (arith, h n) in
    ap (λ (o : List ℕ). put_bytes o (at n) (f n)) (rows_behind at w f h g e s n (omega arith))
    ∙ put_behind (g ++ joined f n) s (f n) (at n) (rows_end at w f h g e n) room
    ∙ ap (λ (r : List ℕ). r ++ drop (length r) s) (append_assoc g (joined f n) (f n))
