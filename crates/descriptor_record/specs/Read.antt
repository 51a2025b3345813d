-- The Element Descriptor page p read, with a configuration c: which pages are refused, and the record of the others. A byte past the end
-- reads as 0. Assumes nothing.
use Rattle.std.specs.Prelude.{Bool, false, not, ◌&&◌, List, ◌++◌, ℕ, zero, suc, ◌+◌, ◌-◌, eqb, leb, ltb, get_or, Ok}
use Rattle.bits.specs.Bits.{printable}
use Rattle.bits.specs.Choice.{pick, first_below}
use Rattle.bits.specs.Numbers.{big}
use Rattle.bits.specs.Places.{two_at}
use Rattle.bits.specs.Rows.{joined, bytes_at}
use Rattle.refusals.specs.Outcomes.{next, offence_tested, page_next}
use Rattle.record_head.specs.Head.{record_head}
use Rattle.shelf.specs.Limits.{most_text}
use Rattle.page.specs.Slots.{slots_of}
use Rattle.page.specs.Header.{configuration_tested, framed, length_tested, generation_tested}
use Rattle.names.specs.Name.{padded}
use Rattle.refusals.specs.Answers.{Answer, PageAnswer}

-- the length of the text that the descriptor at k declares
unfoldable pub declared : List ℕ → ℕ → ℕ
declared p k = big (two_at p (k + 2))

-- where descriptor i starts: each behind the text of the one before it
abbrev pub place_on : List ℕ → ℕ → ℕ
place_on p zero = 8
place_on p (suc i) = place_on p i + (4 + declared p (place_on p i))

-- the descriptor in which the byte at k stands, of n: the first that ends behind it
abbrev pub before : List ℕ → ℕ → ℕ → Bool
before p k i = ltb k (place_on p (i + 1))

unfoldable pub descriptor_of : List ℕ → ℕ → ℕ → ℕ
descriptor_of p n k = first_below (before p k) n

-- what byte j of the descriptor at k may not be: 0 and 1 are zero, a length above 32 is told at its first byte, and the text is printable
unfoldable pub byte_offends : List ℕ → ℕ → ℕ → Bool
byte_offends p k j =
    pick (ltb j 2) (not (eqb (get_or p (k + j) 0) 0))
    (pick (eqb j 2) (not (leb (declared p k) most_text))
    (pick (eqb j 3) false (not (printable (get_or p (k + j) 0)))))

-- the byte at k of a page of n descriptors
unfoldable pub offends : List ℕ → ℕ → ℕ → Bool
offends p n k =
    let at : ℕ = place_on p (descriptor_of p n k) in
    pick (ltb k 8) (eqb k 1 && not (eqb (get_or p k 0) 0)) (byte_offends p at (k - at))

-- 2 to 4: the frame; 12: not the bytes that n descriptors declare; 5: the generation code
unfoldable pub head_tested : List ℕ → List ℕ → ℕ → Answer
head_tested c p n = next (framed p 0x07) (next (length_tested p (place_on p n)) (generation_tested c p))

-- 6: a byte offends, and the first is told
unfoldable pub bytes_tested : List ℕ → ℕ → PageAnswer
bytes_tested p n = offence_tested (first_below (offends p n) (place_on p n)) (place_on p n) (Ok tt)

-- 2 to 4, 12, 5, 6: a page of n descriptors
unfoldable pub page_tested : List ℕ → List ℕ → ℕ → PageAnswer
page_tested c p n = page_next (head_tested c p n) (bytes_tested p n)

-- 1: no configuration; the others: the page
unfoldable pub names_read : List ℕ → List ℕ → PageAnswer
names_read c p = page_next (configuration_tested c) (page_tested c p (slots_of c))

-- the name that descriptor i tells
unfoldable pub name_on : List ℕ → ℕ → List ℕ
name_on p i = bytes_at p (place_on p i + 4) (declared p (place_on p i))

-- the head has nothing of its own, and each entry is a name with zeros behind it
unfoldable pub names_record : List ℕ → List ℕ → List ℕ
names_record c p = record_head 0 0 (slots_of c) ++ joined (λ i. padded (name_on p i)) (slots_of c)
