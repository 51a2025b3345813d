-- Bytes put into a list: what is read back, and what stays. Assumes nothing.
use mathlib.Core.Path.{◌≡◌, refl, sym, ap, ap₂, ◌∙◌}
use mathlib.Core.Bool.{Bool, true, false}
use mathlib.Core.List.{List, ◌++◌}
use mathlib.Core.Logic.{◌⊎◌, ⊎_elim}
use Prim.Native.Nat.{ℕ, ◌+◌, ◌-◌, ◌<◌, ◌≤◌}
use native.Mathlib.Omega.{arith}
use lib.Dec.{leb}
use lib.ListN.{length, get_or, take, drop, length-append, length-drop, take-append-drop}
use lib.Seq.{length-take-le, take-append-le, take-take, take-add, get_or-take, get_or-drop}
use borrow.Author.Tests.{leb-true, le-leb}
use Rattle.bits.specs.Choice.{pick}
use Rattle.bits.specs.Rows.{bytes_at, put_bytes}
use Rattle.bits.proofs.Logic.{pick_yes}
use Rattle.bits.proofs.Rows.{length-bytes_at, bytes_there}
use Rattle.bits.proofs.Parts.{get_front, get_behind}

-- the place i is none of the n from k on
abbrev pub Beside : ℕ → ℕ → ℕ → Type 0
Beside i k n = (i < k) ⊎ (k + n ≤ i)

module _ (s : List ℕ) (k : ℕ) (f : List ℕ) where
  -- they stand there, or the list is as it was
  put_either : (P : List ℕ → Type 0) → (k + length f ≤ length s → P (take k s ++ f ++ drop (k + length f) s)) → P s → P (put_bytes s k f)
  unfolding put_bytes
  put_either P a b = go (leb (k + length f) (length s)) refl
    where
      go : (t : Bool) → leb (k + length f) (length s) ≡ t → P (pick t (take k s ++ f ++ drop (k + length f) s) s)
      go true e = a (leb-true (k + length f) (length s) e)
      go false e = b

  front_length : k + length f ≤ length s → length (take k s ++ f) ≡ k + length f
  front_length l = length-append (take k s) f ∙ rw (length-take-le k s (omega arith))

  pub length-put_bytes : length (put_bytes s k f) ≡ length s
  length-put_bytes =
      put_either (λ (r : List ℕ). length r ≡ length s)
      (λ l. length-append (take k s ++ f) (drop (k + length f) s) ∙ rw (front_length l, length-drop (k + length f) s) (omega arith))
      refl

  -- a byte beside them stays as it was
  pub bytes_other : (i : ℕ) → Beside i k (length f) → get_or (put_bytes s k f) i 0 ≡ get_or s i 0
  bytes_other i h = put_either (λ (r : List ℕ). get_or r i 0 ≡ get_or s i 0) (λ l. ⊎_elim (before l) (after l) h) refl
    where
      before : k + length f ≤ length s → i < k → get_or (take k s ++ f ++ drop (k + length f) s) i 0 ≡ get_or s i 0
      before l b =
          get_front (take k s ++ f) (drop (k + length f) s) (k + length f) i (front_length l) (omega arith)
          ∙ get_front (take k s) f k i (length-take-le k s (omega arith)) b
          ∙ get_or-take k s i 0 b

      after : k + length f ≤ length s → k + length f ≤ i → get_or (take k s ++ f ++ drop (k + length f) s) i 0 ≡ get_or s i 0
      after l b =
          let j = i - (k + length f) in
          let e : i ≡ k + length f + j = omega arith in
          ap (λ (m : ℕ). get_or (take k s ++ f ++ drop (k + length f) s) m 0) e
          ∙ get_behind (take k s ++ f) (drop (k + length f) s) (k + length f) j (front_length l)
          ∙ get_or-drop (k + length f) s j 0
          ∙ ap (λ (m : ℕ). get_or s m 0) (sym e)

  -- a byte of them is read back
  pub bytes_put_lem : (i : ℕ) → i < length f → k + length f ≤ length s → get_or (put_bytes s k f) (k + i) 0 ≡ get_or f i 0
  unfolding put_bytes
  bytes_put_lem i b l =
      ap (λ (r : List ℕ). get_or r (k + i) 0) (pick_yes _ _ _ (le-leb (k + length f) (length s) l))
      ∙ get_front (take k s ++ f) (drop (k + length f) s) (k + length f) (k + i) (front_length l) (omega arith)
      ∙ get_behind (take k s) f k i (length-take-le k s (omega arith))

  -- and what stands before them stays
  pub take_put : (m : ℕ) → m ≤ k → take m (put_bytes s k f) ≡ take m s
  take_put m h =
      put_either (λ (r : List ℕ). take m r ≡ take m s)
      (λ l.
      let e = length-take-le k s (omega arith) in
      take-append-le m (take k s ++ f) (drop (k + length f) s) (rw (front_length l) (omega arith))
      ∙ take-append-le m (take k s) f (rw e h)
      ∙ take-take m k s h)
      refl

-- what stands already is put again
pub bytes_again_lem : (s : List ℕ) (k n : ℕ) → put_bytes s k (bytes_at s k n) ≡ s
bytes_again_lem s k n =
    put_either s k (bytes_at s k n) (λ (r : List ℕ). r ≡ s)
    (λ l.
    let e = length-bytes_at s k n in
    ap₂ (λ (r : List ℕ) (m : ℕ). take k s ++ r ++ drop (k + m) s) (bytes_there s k n (rw e at l)) e
    ∙ ap (λ (r : List ℕ). r ++ drop (k + n) s) (sym (take-add k n s))
    ∙ take-append-drop (k + n) s)
    refl
