-- A status record: page bits, number of entries, and an entry of 16 bytes for each slot of the page. Assumes nothing.
use Rattle.std.specs.Prelude.{Bool, ◌&&◌, List, ◌++◌, ℕ, ◌+◌, ◌*◌, ◌≤◌, eqb, leb, length, get_or}
use Rattle.bits.specs.Bits.{num}
use Rattle.bits.specs.Places.{put_four}
use Rattle.bits.specs.Rows.{joined, bytes_at, put_bytes, rows_put}
use Rattle.record_head.specs.Head.{record_head}
use Rattle.shelf_status.specs.declared.PageBits.{PageBits}

abbrev pub entry_place : ℕ → ℕ
entry_place i = 4 + 16 * i

-- the record f has the bytes of entry i
abbrev pub HasEntry : List ℕ → ℕ → Type 0
HasEntry f i = entry_place i + 16 ≤ length f

unfoldable pub entry_at : List ℕ → ℕ → List ℕ
entry_at r i = bytes_at r (entry_place i) 16

abbrev pub entry_put : List ℕ → ℕ → List ℕ → List ℕ
entry_put r i x = put_bytes r (entry_place i) x

-- the page bits and the number of entries
abbrev pub head_row : PageBits → ℕ → List ℕ
head_row b n = record_head (num b.noncritical) (num b.critical) n

abbrev pub head_put : List ℕ → PageBits → ℕ → List ℕ
head_put r b n = put_four r 0 (head_row b n)

abbrev pub flag : ℕ → Bool
flag b = eqb b 1

abbrev pub bits_at : List ℕ → PageBits
bits_at r = record { noncritical = flag (get_or r 0 0); critical = flag (get_or r 1 0) }

-- each of the two is 0 or 1
abbrev pub bits_formed : List ℕ → Bool
bits_formed r = leb (get_or r 0 0) 1 && leb (get_or r 1 0) 1

-- the record with f 0, f 1, .. put into its first n entries, one after the other
abbrev pub entries_put : (ℕ → List ℕ) → List ℕ → ℕ → List ℕ
entries_put f r n = rows_put entry_place f r n

-- the record with these page bits that has f i as entry i
abbrev pub record_with : PageBits → (ℕ → List ℕ) → ℕ → List ℕ
record_with b f n = head_row b n ++ joined f n
