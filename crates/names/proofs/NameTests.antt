-- The tests of a text and of a name, from what the calls say. Assumes nothing.
use Rattle.std.specs.Prelude.{◌↔◌, IsTrue, EachIndex}
use mathlib.Core.Path.{◌≡◌, sym, ap, ◌∙◌}
use mathlib.Core.Bool.{Bool, true, false, ◌&&◌}
use mathlib.Core.List.{List}
use Prim.Native.Nat.{ℕ, ◌<◌, ◌≤◌}
use native.Mathlib.Omega.{arith}
use lib.Dec.{eqb, leb}
use lib.ListN.{length, get_or}
use lib.Seq.{ext_get_or}
use borrow.Author.Tests.{eqb-true, eqb-false, le-leb, lt-leb}
use Rattle.bits.specs.Bits.{printable}
use Rattle.bits.specs.Choice.{all_below}
use Rattle.bits.specs.Texts.{same_bytes}
use Rattle.bits.proofs.Logic.{never, by_case, below_at, below_all}
use Rattle.bits.proofs.Texts.{same_at, same_if}
use Rattle.shelf.specs.Limits.{most_text}
use Rattle.names.specs.Name.{name_length, name_at, printable_at, is_name, equal}
use Rattle.names.proofs.NameBack.{length_name, name_byte}
use Rattle.names.proofs.Equal.{equal_same, same_equal}

-- a text is a name if it is short, and printable up to its end
module _ (x : List ℕ) where
  pub too_long : most_text < length x → leb (length x) most_text ≡ is_name x
  unfolding is_name
  too_long l = let e = lt-leb (length x) most_text l in e ∙ sym (ap (λ (b : Bool). b && all_below (printable_at x) (length x)) e)

  pub all_printable : {b : Bool} → length x ≤ most_text → IsTrue b ↔ EachIndex x (λ i. printable (get_or x i 0) ≡ true) → b ≡ is_name x
  unfolding is_name
  all_printable {b} l h =
      let t = all_below (printable_at x) (length x) in
      let e : b ≡ t = by_case b (λ u. u ∙ sym (below_all (printable_at x) (length x) (h.0 u))) (λ u. by_case t (λ v. never (sym (h.1 (below_at (printable_at x) (length x) v)) ∙ u)) (λ v. u ∙ sym v)) in
      e ∙ sym (ap (λ (a : Bool). a && t) (le-leb (length x) most_text l))

-- the name at k is the text x of n bytes if they stand there and it ends behind them
module _ (s : List ℕ) (k : ℕ) (x : List ℕ) {n : ℕ} (e : n ≡ length x) {b : Bool} (h : b ≡ same_bytes s k x n) where
  same_name : name_at s k ≡ x → same_bytes s k x n ≡ true
  same_name q =
      same_if s k x n (λ i l. sym (name_byte s k i (omega (arith, e, l, length_name s k, ap length q))) ∙ ap (λ (r : List ℕ). get_or r i 0) q)

  pub other_bytes : b ≡ false → false ≡ equal (name_at s k) x
  other_bytes u =
      by_case (equal (name_at s k) x) (λ t. never (sym (same_name (equal_same (name_at s k) x t)) ∙ sym h ∙ u)) (λ t. sym t)

  pub same_bytes_lem : {m : ℕ} → b ≡ true → m ≡ name_length s k → eqb m n ≡ equal (name_at s k) x
  same_bytes_lem {m} u q =
      by_case (eqb m n)
      (λ t.
      let a = eqb-true m n t in
      let z : length (name_at s k) ≡ length x = length_name s k ∙ sym q ∙ a ∙ e in
      t
      ∙ sym (same_equal (name_at s k) x
      (ext_get_or 0 (name_at s k) x z
      (λ i l. name_byte s k i (omega (arith, l, length_name s k)) ∙ same_at s k x n i (sym h ∙ u) (omega (arith, l, z, e))))))
      (λ t.
      t
      ∙ by_case (equal (name_at s k) x)
      (λ v. absurd (eqb-false m n t (q ∙ sym (length_name s k) ∙ ap length (equal_same (name_at s k) x v) ∙ sym e)))
      (λ v. sym v))
