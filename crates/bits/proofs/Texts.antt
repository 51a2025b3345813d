-- How far bytes are printable, and whether they are those of a text: what the two loops say, and what follows. Assumes nothing.
use mathlib.Core.Path.{◌≡◌, sym, ap, ◌∙◌}
use mathlib.Core.Bool.{Bool, true, false, not}
use mathlib.Core.List.{List, [], ◌++◌}
use mathlib.Core.Logic.{⊎_elim}
use Prim.Native.Nat.{ℕ, ◌+◌, ◌<◌, ◌≤◌}
use native.Mathlib.Nat.{eq-or-lt_of_le, zero-add}
use native.Mathlib.Omega.{arith}
use lib.ListN.{length, get_or, take, drop}
use Rattle.std.specs.Str.{bytes_eq}
use Rattle.std.proofs.lemmas.Bool.Decides.{same_from_decides}
use Rattle.std.proofs.lemmas.Slice.Eq.{bytes_eq-Decides}
use borrow.Author.Tests.{eqb-true, eq-eqb, not-true, not-false}
use Rattle.bits.specs.Bits.{printable}
use Rattle.bits.specs.Choice.{all_below, first_below}
use Rattle.bits.specs.Rows.{bytes_at}
use Rattle.bits.specs.Texts.{unprintable, printable_run, same_byte, same_bytes}
use Rattle.bits.proofs.Rows.{bytes_there, bytes_same, bytes_get}
use Rattle.bits.proofs.Logic.{fails, below_at, below_all, below_next, first_at, first_none, first_bound, first_passes, first_fails, first_same}

module _ (s : List ℕ) (k n : ℕ) where
  -- the walk stopped at byte i, which is b
  pub run_stopped : (i : ℕ) {b : ℕ} → i < n → all_below (fails (unprintable s k)) i ≡ true → b ≡ get_or s (k + i) 0 → printable b ≡ false → i ≡ printable_run s k n
  unfolding printable_run
  run_stopped i l t e q = sym (first_at (unprintable s k) n i l t (ap not (ap printable (sym e) ∙ q)))

  pub run_whole : all_below (fails (unprintable s k)) n ≡ true → n ≡ printable_run s k n
  unfolding printable_run
  run_whole t = sym (first_none (unprintable s k) n t)

  pub run_bound : printable_run s k n ≤ n
  unfolding printable_run
  run_bound = first_bound (unprintable s k) n

  -- each byte of the run is printable, and the one behind it is not
  pub run_printable : (i : ℕ) → i < printable_run s k n → printable (get_or s (k + i) 0) ≡ true
  unfolding printable_run
  run_printable i l = not-false _ (first_fails (unprintable s k) n i l)

  pub run_ends : printable_run s k n < n → printable (get_or s (k + printable_run s k n) 0) ≡ false
  unfolding printable_run
  run_ends l = not-true _ (first_passes (unprintable s k) n l)

-- one more byte is printable
pub run_next : (s : List ℕ) (k i : ℕ) {b : ℕ} → all_below (fails (unprintable s k)) i ≡ true → b ≡ get_or s (k + i) 0 → printable b ≡ true
    → all_below (fails (unprintable s k)) (i + 1) ≡ true
run_next s k i t e q = below_next (fails (unprintable s k)) i t (ap (λ (p : Bool). not (not p)) (ap printable (sym e) ∙ q))

-- the same bytes are printable as far
pub run_same : (s x : List ℕ) (k m n : ℕ) → ((i : ℕ) → i < n → get_or s (k + i) 0 ≡ get_or x (m + i) 0) → printable_run s k n ≡ printable_run x m n
unfolding printable_run
run_same s x k m n h = first_same (unprintable s k) (unprintable x m) n (λ i l. ap (λ (b : ℕ). not (printable b)) (h i l))

-- where the run is known: n bytes are printable, and the next is not or is behind the end
pub run_is : (s : List ℕ) (k n m : ℕ) → n ≤ m → ((i : ℕ) → i < n → printable (get_or s (k + i) 0) ≡ true) → (n < m → printable (get_or s (k + n) 0) ≡ false)
    → printable_run s k m ≡ n
unfolding printable_run
run_is s k n m l h e = ⊎_elim whole part (eq-or-lt_of_le l)
  where
    none : all_below (fails (unprintable s k)) n ≡ true
    none = below_all (fails (unprintable s k)) n (λ i b. ap (λ (p : Bool). not (not p)) (h i b))

    whole : n ≡ m → first_below (unprintable s k) m ≡ n
    whole q = rw (← q) (first_none (unprintable s k) n none)

    part : n < m → first_below (unprintable s k) m ≡ n
    part b = first_at (unprintable s k) m n b none (ap not (e b))

module _ (s : List ℕ) (k : ℕ) (x : List ℕ) where
  -- what that says of each byte
  pub same_at : (n i : ℕ) → same_bytes s k x n ≡ true → i < n → get_or s (k + i) 0 ≡ get_or x i 0
  unfolding same_bytes
  same_at n i t l = eqb-true _ _ (below_at (same_byte s k x) n t i l)

  pub same_if : (n : ℕ) → ((i : ℕ) → i < n → get_or s (k + i) 0 ≡ get_or x i 0) → same_bytes s k x n ≡ true
  unfolding same_bytes
  same_if n h = below_all (same_byte s k x) n (λ i l. eq-eqb _ _ (h i l))

  -- as the library compares two slices
  pub same_slices : (n : ℕ) → k + n ≤ length s → n ≤ length x → bytes_eq (take n (drop k s)) (take n x) ≡ same_bytes s k x n
  same_slices n h l = same_from_decides _ _ (bytes_eq-Decides (take n (drop k s)) (take n x)) (there, back)
    where
      front : bytes_at x 0 n ≡ take n x
      front = bytes_there x 0 n (omega arith)

      there : same_bytes s k x n ≡ true → take n (drop k s) ≡ take n x
      there t = sym (bytes_there s k n h) ∙ bytes_same s x k 0 n (λ i b. same_at n i t b ∙ ap (λ (m : ℕ). get_or x m 0) (sym (zero-add i))) ∙ front

      back : take n (drop k s) ≡ take n x → same_bytes s k x n ≡ true
      back e = same_if n (λ i b. sym (bytes_get s k n i [] b) ∙ ap (λ (r : List ℕ). get_or (r ++ []) i 0) (bytes_there s k n h ∙ e ∙ sym front) ∙ bytes_get x 0 n i [] b ∙ ap (λ (m : ℕ). get_or x m 0) (zero-add i))
