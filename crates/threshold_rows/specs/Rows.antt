-- Rows of four threshold bytes in a block b, from the place k on: the slots of a page, or the entries of a record. Assumes nothing.
use Rattle.std.specs.Prelude.{Bool, true, not, List, ℕ, ◌+◌, ◌*◌, ◌≤◌, eqb, length, get_or, Result, Ok, Err}
use Rattle.bits.specs.Choice.{pick, all_below, first_below, offence_in}
use Rattle.bits.specs.Places.{four_at}
use Rattle.element.specs.Types.{had, ordered}
use Rattle.refusals.specs.declared.Refusal.TheVariants.{NotAllowed, NoSuchThreshold, ThresholdOrder}
use Rattle.refusals.specs.Outcomes.{unless, not_allowed_at, offence_tested, next}
use Rattle.shelf_formed.specs.Formed.{HasFront}
use Rattle.page.specs.Slots.{slots_of, slot_at}
use Rattle.page.specs.Offends.{offends_on}
use Rattle.threshold_rows.specs.declared.Seen.{Seen}
use Rattle.refusals.specs.Answers.{Answer, PageAnswer}

-- where the rows start
abbrev pub on_page : ℕ
on_page = 8

abbrev pub in_record : ℕ
in_record = 4

abbrev pub row_place : ℕ → ℕ → ℕ
row_place k i = k + 4 * i

abbrev pub row_at : List ℕ → ℕ → ℕ → List ℕ
row_at b k i = four_at b (row_place k i)

-- the configuration c has n slots or more, and the block b a row for each
abbrev pub HasRows : List ℕ → List ℕ → ℕ → ℕ → Type 0
HasRows c b k n = HasFront c × (n ≤ slots_of c) × (row_place k n ≤ length b)

-- the first of four bytes that is not zero, 4 if none is
abbrev pub is_set : List ℕ → ℕ → Bool
is_set e j = not (eqb (get_or e j 0) 0)

unfoldable pub first_set : List ℕ → ℕ
first_set e = first_below (is_set e) 4

-- overall elements are zero: the first byte of row i that is refused, 4 if none is
unfoldable pub row_offending : List ℕ → List ℕ → ℕ → ℕ → ℕ
row_offending c b k i = pick (slot_at c i).overall (first_set (row_at b k i)) 4

-- where the first refused byte of n rows stands, or where the rows end
unfoldable pub offence : List ℕ → List ℕ → ℕ → ℕ → ℕ
offence c b k n = offence_in (row_place k) (row_offending c b k) n

unfoldable pub row_had : List ℕ → List ℕ → ℕ → ℕ → Bool
row_had c b k i = had (slot_at c i).kind (row_at b k i)

unfoldable pub all_had : List ℕ → List ℕ → ℕ → ℕ → Bool
all_had c b k n = all_below (row_had c b k) n

unfoldable pub row_ordered : List ℕ → List ℕ → ℕ → ℕ → Bool
row_ordered c b k i = ordered (slot_at c i).kind (row_at b k i)

unfoldable pub all_ordered : List ℕ → List ℕ → ℕ → ℕ → Bool
all_ordered c b k n = all_below (row_ordered c b k) n

-- byte 1 of a page of thresholds is zero
abbrev pub first_allows : List ℕ → Bool
first_allows p = eqb (get_or p 1 0) 0

-- byte j of slot i is allowed where thresholds are told: overall elements are zero
abbrev pub slot_allows : List ℕ → List ℕ → ℕ → ℕ → Bool
slot_allows c p i j = pick (slot_at c i).overall (eqb (get_or (row_at p on_page i) j 0) 0) true

-- the byte at k is not; and of a page that sets thresholds, where byte 1 alone is tested
unfoldable pub offends : List ℕ → List ℕ → ℕ → Bool
offends c p k = offends_on (first_allows p) (slot_allows c p) k

unfoldable pub byte_offends : List ℕ → ℕ → Bool
byte_offends p k = offends_on (first_allows p) (λ i j. true) k

-- 6: byte 1
abbrev pub byte_tested : List ℕ → PageAnswer
byte_tested p = pick (first_allows p) (Ok tt) (not_allowed_at 1)

-- 6: a byte of an overall row
abbrev pub overall_tested : List ℕ → List ℕ → ℕ → ℕ → Answer
overall_tested c b k n = unless (eqb (offence c b k n) (row_place k n)) NotAllowed (Ok tt)

-- 7: a byte that the row's type doesn't have
abbrev pub had_tested : List ℕ → List ℕ → ℕ → ℕ → Answer
had_tested c b k n = unless (all_had c b k n) NoSuchThreshold (Ok tt)

-- 8: the order
abbrev pub order_tested : List ℕ → List ℕ → ℕ → ℕ → Answer
order_tested c b k n = unless (all_ordered c b k n) ThresholdOrder (Ok tt)

-- 7, 8: each is tested of all rows before the next
abbrev pub limits_tested : List ℕ → List ℕ → ℕ → ℕ → Answer
limits_tested c b k n = next (had_tested c b k n) (order_tested c b k n)

-- 6, 7, 8: the rows of a record, which tells no offset
unfoldable pub rows_tested : List ℕ → List ℕ → ℕ → ℕ → Answer
rows_tested c b k n = next (overall_tested c b k n) (limits_tested c b k n)

-- 6, 7, 8: the n slots of a page p
unfoldable pub slots_tested : List ℕ → List ℕ → ℕ → PageAnswer
slots_tested c p n = offence_tested (offence c p on_page n) (row_place on_page n) (limits_tested c p on_page n)

-- what one pass sees of them
abbrev pub seen : List ℕ → List ℕ → ℕ → ℕ → Seen
seen c b k n = record { had = all_had c b k n; ordered = all_ordered c b k n }

unfoldable pub scanned : List ℕ → List ℕ → ℕ → ℕ → Result Seen ℕ
scanned c b k n = pick (eqb (offence c b k n) (row_place k n)) (Ok (seen c b k n)) (Err (offence c b k n))

-- and what that comes to
abbrev pub seen_tested : Seen → Answer
seen_tested s = next (unless s.had NoSuchThreshold (Ok tt)) (unless s.ordered ThresholdOrder (Ok tt))
