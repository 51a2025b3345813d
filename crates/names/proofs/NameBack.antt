-- What is read at a place is a name, whatever stands there; and a name that stands with zeros behind its end is read back. Assumes nothing.
use mathlib.Core.Path.{◌≡◌, refl, sym, ap, ◌∙◌}
use mathlib.Core.Bool.{true}
use mathlib.Core.List.{List, [], append-nil}
use Prim.Native.Nat.{ℕ, ◌+◌, ◌-◌, ◌<◌, ◌≤◌}
use native.Mathlib.Nat.{zero-add}
use native.Mathlib.Omega.{arith}
use lib.Dec.{leb}
use lib.ListN.{length, get_or, replicate, length-append, length-replicate, get_or-replicate}
use borrow.Author.Tests.{leb-true, le-leb}
use Rattle.bits.specs.Bits.{printable}
use Rattle.bits.specs.Choice.{all_below}
use Rattle.bits.specs.Rows.{bytes_at}
use Rattle.bits.proofs.Logic.{and_left, and_right, and_both, below_at, below_all}
use Rattle.bits.proofs.Rows.{length-bytes_at, bytes_get, bytes_same, bytes_whole}
use Rattle.bits.proofs.Parts.{get_front, get_behind}
use Rattle.bits.proofs.Texts.{run_bound, run_printable, run_same, run_is}
use Rattle.shelf.specs.Limits.{most_text}
use Rattle.names.specs.Name.{name_length, name_at, printable_at, is_name, padded}

-- the name at a place
module _ (s : List ℕ) (k : ℕ) where
  pub name_bound : name_length s k ≤ most_text
  unfolding name_length
  name_bound = run_bound s k most_text

  pub length_name : length (name_at s k) ≡ name_length s k
  unfolding name_at
  length_name = length-bytes_at s k (name_length s k)

  pub name_byte : (i : ℕ) → i < name_length s k → get_or (name_at s k) i 0 ≡ get_or s (k + i) 0
  unfolding name_at
  name_byte i l =
      let x = bytes_at s k (name_length s k) in
      ap (λ (r : List ℕ). get_or r i 0) (sym (append-nil x)) ∙ bytes_get s k (name_length s k) i [] l

  pub name_printable : (i : ℕ) → i < name_length s k → printable (get_or s (k + i) 0) ≡ true
  unfolding name_length
  name_printable i l = run_printable s k most_text i l

  pub name_is : is_name (name_at s k) ≡ true
  unfolding is_name
  name_is =
      and_both (le-leb (length (name_at s k)) most_text (rw length_name name_bound))
      (below_all (printable_at (name_at s k)) (length (name_at s k))
      (λ i l.
      let m : i < name_length s k = rw length_name at l in
      ap printable (name_byte i m) ∙ name_printable i m))

-- the same bytes are the same name
pub name_same : (s x : List ℕ) (k m : ℕ) → ((i : ℕ) → i < most_text → get_or s (k + i) 0 ≡ get_or x (m + i) 0) → name_at s k ≡ name_at x m
unfolding name_at name_length
name_same s x k m h =
    let n = run_same s x k m most_text h in
    ap (bytes_at s k) n ∙ bytes_same s x k m _ (λ i l. h i (omega (arith, run_bound x m most_text)))

-- a text that is a name, and how it is put
module _ (x : List ℕ) (h : is_name x ≡ true) where
  pub name_short : length x ≤ most_text
  unfolding is_name
  name_short = leb-true (length x) most_text (and_left (leb (length x) most_text) (all_below (printable_at x) (length x)) h)

  pub text_printable : (i : ℕ) → i < length x → printable (get_or x i 0) ≡ true
  unfolding is_name
  text_printable i l =
      below_at (printable_at x) (length x) (and_right (leb (length x) most_text) (all_below (printable_at x) (length x)) h) i l

  pub length-padded : length (padded x) ≡ most_text
  unfolding padded
  length-padded =
      length-append x (replicate (most_text - length x) 0)
      ∙ rw (length-replicate {A = ℕ} (most_text - length x) 0) (omega (arith, name_short))

  pub padded_byte : (i : ℕ) → i < length x → get_or (padded x) i 0 ≡ get_or x i 0
  unfolding padded
  padded_byte i l = get_front x (replicate (most_text - length x) 0) (length x) i refl l

  pub padded_end : (i : ℕ) → length x ≤ i → i < most_text → get_or (padded x) i 0 ≡ 0
  unfolding padded
  padded_end i l m =
      let n = length x in
      let e : i ≡ n + (i - n) = omega arith in
      ap (λ (j : ℕ). get_or (padded x) j 0) e
      ∙ get_behind x (replicate (most_text - n) 0) n (i - n) refl
      ∙ get_or-replicate (most_text - n) (i - n) 0 0 (omega arith)

  -- read back
  module _ (s : List ℕ) (k : ℕ) (same : (i : ℕ) → i < most_text → get_or s (k + i) 0 ≡ get_or (padded x) i 0) where
    length_back : name_length s k ≡ length x
    unfolding name_length
    length_back =
        run_is s k (length x) most_text name_short (λ i l. ap printable (same i (omega (arith, name_short)) ∙ padded_byte i l) ∙ text_printable i l)
        (λ l. ap printable (same (length x) l ∙ padded_end (length x) (omega arith) l))

    pub name_back : name_at s k ≡ x
    unfolding name_at
    name_back =
        ap (bytes_at s k) length_back
        ∙ bytes_same s x k 0 (length x)
        (λ i l. same i (omega (arith, name_short)) ∙ padded_byte i l ∙ ap (λ (j : ℕ). get_or x j 0) (sym (zero-add i)))
        ∙ bytes_whole x (length x) refl
