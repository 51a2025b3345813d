-- A Threshold In page that was accepted is written again as the same bytes. Assumes nothing.
use Rattle.std.specs.Prelude.{Ok}
use mathlib.Core.Path.{◌≡◌, sym, ap, ap₂, ◌∙◌}
use mathlib.Core.Bool.{true}
use mathlib.Core.List.{List, ◌++◌}
use Prim.Native.Nat.{ℕ, ◌+◌, ◌*◌, ◌<◌, ◌≤◌}
use native.Mathlib.Omega.{arith}
use lib.ListN.{length, get_or, drop, take-append-drop, length-drop}
use lib.Seq.{get_or-append-add, take_all}
use Rattle.bits.specs.Rows.{bytes_at}
use Rattle.bits.specs.Numbers.{Bytes}
use Rattle.bits.proofs.Rows.{bytes_there, bytes_get, bytes_same, four_same}
use Rattle.record_head.specs.Head.{record_head, count_tested}
use Rattle.record_head.proofs.Counted.{count_back}
use Rattle.shelf.specs.Limits.{most_types, most_elements}
use Rattle.shelf_formed.specs.Formed.{configuration_formed}
use Rattle.page.specs.Slots.{slots_of, slot_place}
use Rattle.page.specs.Header.{headed}
use Rattle.page.proofs.SlotBounds.{configuration_front, slots_bound}
use Rattle.page.proofs.HeaderBothWays.{length-tested, header_again}
use Rattle.threshold_rows.proofs.RowTests.{Fine, rows_fine, fine_rows, record_passed, fine_by}
use Rattle.threshold_rows.specs.Rows.{on_page, in_record, row_place, row_at, offence, limits_tested}
use Rattle.threshold_record.specs.Read.{threshold_read, threshold_record}
use Rattle.threshold_record.specs.Rewritten.{entries_tested, record_tested, page_again}
use Rattle.threshold_record.proofs.Refusals.{read_parts}

-- a record's entries are the page's slots, whatever stands behind them
module _ (p rest : List ℕ) (n : ℕ) where
  abbrev told : List ℕ
  told = record_head 0 0 n ++ bytes_at p on_page (4 * n) ++ rest

  get : (j : ℕ) → j < 4 * n → get_or told (in_record + j) 0 ≡ get_or p (on_page + j) 0
  get j l =
      get_or-append-add (record_head 0 0 n) (bytes_at p on_page (4 * n) ++ rest) j 0 ∙ bytes_get p on_page (4 * n) j rest l

  row_back : (i : ℕ) → i < n → row_at told in_record i ≡ row_at p on_page i
  row_back i l = four_same told p (row_place in_record i) (row_place on_page i) at
    where
      at : (j : ℕ) → j < 4 → get_or told (row_place in_record i + j) 0 ≡ get_or p (row_place on_page i + j) 0
      at j b =
          let x : row_place in_record i + j ≡ in_record + (4 * i + j) = omega arith in
          let y : on_page + (4 * i + j) ≡ row_place on_page i + j = omega arith in
          ap (λ (m : ℕ). get_or told m 0) x ∙ get (4 * i + j) (omega arith) ∙ ap (λ (m : ℕ). get_or p m 0) y

  slots_back : bytes_at told in_record (4 * n) ≡ bytes_at p on_page (4 * n)
  slots_back = bytes_same told p in_record on_page (4 * n) get

-- writing again what an accepted reading gave, whatever stands behind it
module _ (c p rest : List ℕ) (a : threshold_read c p ≡ Ok tt) where
  passed : (configuration_formed c ≡ true) × (headed c p 0x05 (slots_of c) ≡ Ok tt) × (get_or p 1 0 ≡ 0)
      × (offence c p on_page (slots_of c) ≡ slot_place (slots_of c)) × (limits_tested c p on_page (slots_of c) ≡ Ok tt)
  passed = read_parts c p a

  few : slots_of c ≤ most_types + most_elements
  few = slots_bound c (configuration_front c passed.0)

  abbrev record_told : List ℕ
  record_told = threshold_record c p ++ rest

  entry_fine : (i : ℕ) → i < slots_of c → Fine c record_told in_record i
  unfolding threshold_record
  entry_fine i l = fine_by c record_told p in_record on_page i (row_back p rest (slots_of c) i l) (rows_fine c p on_page (slots_of c) passed.3 passed.4 i l)

  pub tested_again : record_tested c record_told ≡ Ok tt
  unfolding record_tested entries_tested threshold_record
  tested_again =
      let n : count_tested record_told (slots_of c) ≡ (Ok tt) = count_back 0 0 (slots_of c) (bytes_at p on_page (4 * slots_of c) ++ rest) (omega (arith, few)) in
      rw (passed.0, n) (record_passed c record_told in_record (slots_of c) (fine_rows c record_told in_record (slots_of c) entry_fine))

  pub page_again_lem : Bytes c → Bytes p → page_again c record_told ≡ p
  unfolding page_again threshold_record
  page_again_lem hc hp =
      let n = slots_of c in
      let e = length-tested c p 0x05 n passed.1 in
      let l : length (drop 8 p) ≤ 4 * n = rw (length-drop 8 p) (omega (arith, e)) in
      ap₂ ◌++◌ (header_again c p 0x05 n passed.1 0 hc hp (sym passed.2))
      (slots_back p rest n ∙ bytes_there p on_page (4 * n) (omega (arith, e)) ∙ take_all (4 * n) (drop 8 p) l)
      ∙ take-append-drop 8 p
