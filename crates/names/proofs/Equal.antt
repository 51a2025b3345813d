-- Two texts are equal exactly if they are the same. Assumes nothing.
use mathlib.Core.Path.{◌≡◌, sym, ap, ◌∙◌}
use mathlib.Core.Bool.{true}
use mathlib.Core.List.{List}
use Prim.Native.Nat.{ℕ}
use native.Mathlib.Nat.{zero-add}
use lib.Dec.{eqb}
use lib.ListN.{length, get_or}
use lib.Seq.{ext_get_or}
use borrow.Author.Tests.{eqb-true, eq-eqb}
use Rattle.bits.specs.Texts.{same_bytes}
use Rattle.bits.proofs.Logic.{and_left, and_right, and_both}
use Rattle.bits.proofs.Texts.{same_at, same_if}
use Rattle.names.specs.Name.{equal}

module _ (x y : List ℕ) where
  pub equal_same : equal x y ≡ true → x ≡ y
  unfolding equal
  equal_same t =
      ext_get_or 0 x y (eqb-true (length x) (length y) (and_left (eqb (length x) (length y)) (same_bytes x 0 y (length x)) t))
      (λ i l.
      ap (λ (j : ℕ). get_or x j 0) (sym (zero-add i))
      ∙ same_at x 0 y (length x) i (and_right (eqb (length x) (length y)) (same_bytes x 0 y (length x)) t) l)

  pub same_equal : x ≡ y → equal x y ≡ true
  unfolding equal
  same_equal e =
      and_both (eq-eqb (length x) (length y) (ap length e))
      (same_if x 0 y (length x) (λ i l. ap (λ (j : ℕ). get_or x j 0) (zero-add i) ∙ ap (λ (r : List ℕ). get_or r i 0) e))
