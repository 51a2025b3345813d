-- The tests of a configuration page p. A byte past the end reads as 0. Assumes nothing.
use Rattle.std.specs.Prelude.{Bool, false, not, ◌&&◌, ◌||◌, List, ℕ, ◌+◌, ◌-◌, ◌/◌, ◌%◌, eqb, leb, ltb, length, get_or, Ok}
use Rattle.bits.specs.Bits.{printable}
use Rattle.bits.specs.Choice.{pick, first_below, sum_below}
use Rattle.bits.specs.Rows.{row_start}
use Rattle.element.specs.Types.{served}
use Rattle.refusals.specs.declared.Refusal.TheVariants.{NeededLength}
use Rattle.refusals.specs.Outcomes.{unless, offence_tested, page_next}
use Rattle.shelf.specs.Limits.{most_types, most_elements, most_in_type, most_text}
use Rattle.page.specs.Header.{framed, length_tested}
use Rattle.configuration_page.specs.Page.{header_place}
use Rattle.refusals.specs.Answers.{Answer, PageAnswer}

abbrev pub types_on : List ℕ → ℕ
types_on p = get_or p 10 0

-- byte j of the header of type t: 0 its code, 1 its count, 2 nothing, 3 the length of its text
abbrev pub header_byte : List ℕ → ℕ → ℕ → ℕ
header_byte p j t = get_or p (header_place t + j) 0

-- the counts of the first n types together
unfoldable pub total_before : List ℕ → ℕ → ℕ
total_before p n = sum_below (header_byte p 1) n

-- the text of type t stands behind all headers and the texts before it
abbrev pub text_place_on : List ℕ → ℕ → ℕ
text_place_on p t = row_start (header_place (types_on p)) (header_byte p 3) t

-- the length that the type list needs. A page with fewer than 48 bytes, or too few for its headers, is shorter than that
unfoldable pub needed_length : List ℕ → ℕ
needed_length p = text_place_on p (types_on p)

-- what a well-formed shelf couldn't have written: b at the place k of the first 48 bytes
unfoldable pub fixed_offends : ℕ → ℕ → Bool
fixed_offends k b =
    pick (eqb k 1 || eqb k 9) (not (eqb b 0))
    (pick (eqb k 8) (not (eqb b 0x11))
    (pick (eqb k 10) (not (leb 1 b && leb b most_types))
    (pick (eqb k 11) (not (eqb b 0x24)) false)))

-- b as byte j of the header of type t; a total too large is told at the count that passes it
unfoldable pub header_offends : List ℕ → ℕ → ℕ → ℕ → Bool
header_offends p t j b =
    pick (eqb j 0) (not (served b))
    (pick (eqb j 1) (not (leb b most_in_type && leb (total_before p t + b) most_elements))
    (pick (eqb j 2) (not (eqb b 0)) (not (leb b most_text))))

-- b in a text
unfoldable pub text_offends : ℕ → Bool
text_offends b = not (printable b)

-- the byte at k, wherever that is
unfoldable pub offends : List ℕ → ℕ → Bool
offends p k =
    pick (ltb k (header_place 0)) (fixed_offends k (get_or p k 0))
    (pick (ltb k (header_place (types_on p)))
    (header_offends p ((k - header_place 0) / 4) ((k - header_place 0) % 4) (get_or p k 0))
    (text_offends (get_or p k 0)))

-- the first offending byte in page order; the length of the page if there is none
unfoldable pub first_offence : List ℕ → ℕ
first_offence p = first_below (offends p) (length p)

-- 12: fewer than n bytes
abbrev pub room_tested : List ℕ → ℕ → Answer
room_tested p n = unless (leb n (length p)) NeededLength (Ok tt)

-- 6: a byte offends, and the first is told
unfoldable pub bytes_tested : List ℕ → PageAnswer
bytes_tested p = offence_tested (first_offence p) (length p) (Ok tt)

-- 2, 3, 4: the frame; 12: not the length that the type list needs; 6: a byte offends
unfoldable pub configuration_read : List ℕ → PageAnswer
configuration_read p = page_next (framed p 0x01) (page_next (length_tested p (needed_length p)) (bytes_tested p))
