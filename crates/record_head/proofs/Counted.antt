-- The number of entries: how it is tested, and that it is read back. Assumes nothing.
use Rattle.std.specs.Prelude.{Ok, Err}
use mathlib.Core.Path.{◌≡◌, refl, sym}
use mathlib.Core.List.{List, ◌++◌}
use Prim.Native.Nat.{ℕ, ◌<◌}
use native.Mathlib.Omega.{arith}
use borrow.Author.Tests.{eq-eqb, ne_eqb}
use Rattle.bits.proofs.Widths.{big_bytes}
use Rattle.refusals.specs.declared.Refusal.TheVariants.{WantedList}
use Rattle.record_head.specs.Head.{record_head, entries_in, count_tested}

module _ (r : List ℕ) (n : ℕ) {k : ℕ} (x : k ≡ entries_in r) where
  pub other_count : (k ≡ n → ⊥) → Err WantedList ≡ count_tested r n
  unfolding count_tested
  other_count t = sym (rw (← x, ne_eqb k n t))

  pub same_count : k ≡ n → (Ok tt) ≡ count_tested r n
  unfolding count_tested
  same_count t = sym (rw (← x, eq-eqb k n t))

-- a record of n entries is told as one, whatever stands behind the head
pub count_back : (first second n : ℕ) (rest : List ℕ) → n < 65536 → count_tested (record_head first second n ++ rest) n ≡ Ok tt
count_back first second n rest l = sym (same_count (record_head first second n ++ rest) n (sym (big_bytes 2 n (omega arith))) refl)
