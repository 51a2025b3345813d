-- A record put whole, and read back whatever stands behind it. Assumes nothing.
use mathlib.Core.Path.{◌≡◌, refl, ap, ◌∙◌}
use mathlib.Core.Bool.{Bool, true, false}
use mathlib.Core.List.{List, [], ◌++◌}
use Prim.Native.Nat.{ℕ, ◌≤◌, ◌<◌}
use native.Mathlib.Omega.{arith}
use lib.Dec.{leb}
use lib.ListN.{length}
use Rattle.bits.specs.Bits.{num}
use Rattle.bits.proofs.Logic.{and_both}
use Rattle.bits.proofs.Rows.{EndToEnd, row_back}
use Rattle.bits.proofs.RowsPut.{four_behind, rows_behind}
use Rattle.refusals.specs.Outcomes.{placed}
use Rattle.shelf_status.specs.declared.PageBits.{PageBits}
use Rattle.status_record.specs.Entries.{record_with, entry_place, head_row, head_put, entries_put, flag, bits_formed, entry_at, bits_at}

module _ (f : ℕ → List ℕ) (hf : (i : ℕ) → length (f i) ≡ 16) (b : PageBits) where
  entry_rows : EndToEnd entry_place (λ i. 16) f
  entry_rows i = (hf i, omega arith)

  -- a record put whole, in a place that holds it
  pub record_put : (r : List ℕ) (n : ℕ) → entry_place n ≤ length r → entries_put f (head_put r b n) n ≡ placed (record_with b f n) r
  record_put r n l =
      ap (λ (o : List ℕ). entries_put f o n) (four_behind [] r (head_row b n) 0 refl refl (omega arith))
      ∙ rows_behind entry_place (λ i. 16) f entry_rows (head_row b n) refl r n l

flag_num : (b : Bool) → flag (num b) ≡ b
flag_num true = refl
flag_num false = refl

is_flag_num : (b : Bool) → leb (num b) 1 ≡ true
is_flag_num true = refl
is_flag_num false = refl

-- a record's page bits and entries are read back, whatever stands behind them
module _ (b : PageBits) (f : ℕ → List ℕ) (hf : (i : ℕ) → length (f i) ≡ 16) (n : ℕ) (rest : List ℕ) where
  abbrev pub told : List ℕ
  told = record_with b f n ++ rest

  pub bits_back : bits_at told ≡ b
  bits_back = λ i. record { noncritical = flag_num b.noncritical i; critical = flag_num b.critical i }

  pub bits_fine : bits_formed told ≡ true
  bits_fine = and_both (is_flag_num b.noncritical) (is_flag_num b.critical)

  pub entry_back : (i : ℕ) → i < n → entry_at told i ≡ f i
  unfolding entry_at
  entry_back i h = row_back entry_place (λ i. 16) f (entry_rows f hf b) (head_row b n) refl n rest i h
