-- Counts that stop. Assumes nothing.
use Rattle.std.specs.Prelude.{min}
use mathlib.Core.Path.{◌≡◌, sym, ap, ◌∙◌}
use mathlib.Core.List.{List}
use Prim.Native.Nat.{ℕ, ◌+◌, ◌<◌, ◌≤◌}
use native.Mathlib.Omega.{arith}
use lib.Dec.{leb}
use lib.ListN.{length, take}
use lib.Seq.{take_all}
use borrow.Author.Tests.{leb-true, leb-false, le-leb}
use Rattle.bits.specs.Rows.{bytes_at}
use Rattle.bits.proofs.Logic.{by_case, pick_yes, pick_no}
use Rattle.bits.proofs.Rows.{length-bytes_at, bytes_there}
use Rattle.collector.specs.Collector.{at_most}

module _ (n m : ℕ) where
  pub below_most : n ≤ m → at_most n m ≡ n
  below_most l = pick_yes _ _ _ (le-leb n m l)

  pub from_most : m ≤ n → at_most n m ≡ m
  from_most l =
      by_case (leb n m)
      (λ e. let h = leb-true n m e in let q : n ≡ m = omega arith in pick_yes (leb n m) n m e ∙ q)
      (λ e. pick_no (leb n m) n m e)

  pub most_bound : (at_most n m ≤ m) × (at_most n m ≤ n)
  most_bound =
      by_case (leb n m)
      (λ e. let h = leb-true n m e in let q = pick_yes (leb n m) n m e in (omega (arith, q), omega (arith, q)))
      (λ e. let h = leb-false n m e in let q = pick_no (leb n m) n m e in (omega (arith, q), omega (arith, q)))

pub least : (n m : ℕ) {r : ℕ} → r ≡ min n m → r ≡ at_most n m
least n m e =
    by_case (leb n m)
    (λ t. let h = leb-true n m t in let q = pick_yes (leb n m) n m t in omega (arith, e))
    (λ t. let h = leb-false n m t in let q = pick_no (leb n m) n m t in omega (arith, e))

pub still_below : (i n m : ℕ) → i < n → i < m → i < at_most n m
still_below i n m a b =
    by_case (leb n m)
    (λ e. let q = pick_yes (leb n m) n m e in omega (arith, q))
    (λ e. let q = pick_no (leb n m) n m e in omega (arith, q))

-- a count that stopped goes on where it stopped
pub counts_on : (a b m : ℕ) → at_most (at_most a m + b) m ≡ at_most (a + b) m
counts_on a b m =
    by_case (leb a m)
    (λ e. ap (λ (n : ℕ). at_most (n + b) m) (pick_yes (leb a m) a m e))
    (λ e.
    let h = leb-false a m e in
    ap (λ (n : ℕ). at_most (n + b) m) (pick_no (leb a m) a m e) ∙ from_most (m + b) m (omega arith) ∙ sym (from_most (a + b) m (omega arith)))

-- a count that did not stop tells the length
pub counts_back : (a b m : ℕ) → a < m → at_most a m ≡ at_most b m → b ≡ a
counts_back a b m l e =
    by_case (leb b m)
    (λ t. let h = leb-true b m t in sym (below_most b m h) ∙ sym e ∙ below_most a m (omega arith))
    (λ t. let h = leb-false b m t in absurd (omega (arith, e, below_most a m (omega arith), from_most b m (omega arith))))

-- the first bytes of a list, as far as there are so many
pub first_bytes : (x : List ℕ) (m : ℕ) → bytes_at x 0 (at_most (length x) m) ≡ take m x
first_bytes x m =
    bytes_there x 0 (at_most (length x) m) (omega (arith, (most_bound (length x) m).1))
    ∙ by_case (leb (length x) m)
    (λ e.
    let h = leb-true (length x) m e in
    ap (λ (n : ℕ). take n x) (pick_yes (leb (length x) m) (length x) m e) ∙ take_all (length x) x (omega arith) ∙ sym (take_all m x h))
    (λ e. ap (λ (n : ℕ). take n x) (pick_no (leb (length x) m) (length x) m e))

pub length-first : (x : List ℕ) (m : ℕ) → length (take m x) ≡ at_most (length x) m
length-first x m = ap length (sym (first_bytes x m)) ∙ length-bytes_at x 0 (at_most (length x) m)
