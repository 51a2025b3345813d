-- The Threshold In page written again from a record r. Assumes nothing.
use Rattle.std.specs.Prelude.{List, ◌++◌, ℕ, ◌*◌}
use Rattle.bits.specs.Rows.{bytes_at}
use Rattle.refusals.specs.Outcomes.{next}
use Rattle.record_head.specs.Head.{count_tested}
use Rattle.page.specs.Slots.{slots_of}
use Rattle.page.specs.Header.{configuration_tested, header}
use Rattle.threshold_rows.specs.Rows.{in_record, rows_tested}
use Rattle.refusals.specs.Answers.{Answer}

-- 9: another number of entries than n; 6, 7, 8: the entries
unfoldable pub entries_tested : List ℕ → List ℕ → ℕ → Answer
entries_tested c r n = next (count_tested r n) (rows_tested c r in_record n)

-- 1: no configuration; 9, 6, 7, 8: the entries
unfoldable pub record_tested : List ℕ → List ℕ → Answer
record_tested c r = next (configuration_tested c) (entries_tested c r (slots_of c))

-- the slots are the entries as they are
unfoldable pub page_again : List ℕ → List ℕ → List ℕ
page_again c r = header c 0x05 0 (slots_of c) ++ bytes_at r in_record (4 * slots_of c)
