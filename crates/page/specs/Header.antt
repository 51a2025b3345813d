-- The first tests of a call, and the header of the pages 02h and 05h. Assumes nothing.
use Rattle.std.specs.Prelude.{◌≡◌, Bool, true, List, ◌∷◌, ◌++◌, ℕ, ◌+◌, ◌-◌, ◌≤◌, eqb, leb, length, get_or, Ok}
use Rattle.bits.specs.Numbers.{big, bytes}
use Rattle.bits.specs.Places.{two_at, four_at, put_four}
use Rattle.refusals.specs.declared.Refusal.TheVariants.{ShelfNotWellFormed, PageTooShort, PageCode, PageLength, Generation, NeededLength}
use Rattle.refusals.specs.Outcomes.{unless, next}
use Rattle.shelf_formed.specs.Formed.{well_formed, configuration_formed}
use Rattle.page.specs.Slots.{slots_of, slot_place}
use Rattle.refusals.specs.Answers.{Answer}

-- 1: the shelf record is not well formed
abbrev pub shelf_tested : List ℕ → Answer
shelf_tested s = unless (well_formed s) ShelfNotWellFormed (Ok tt)

-- the same of the configuration that readers take type list and generation from
abbrev pub configuration_tested : List ℕ → Answer
configuration_tested c = unless (configuration_formed c) ShelfNotWellFormed (Ok tt)

-- n is page length + 4
abbrev pub says : List ℕ → ℕ → Bool
says p n = eqb n (big (two_at p 2) + 4)

-- two bytes say the length, so a page has no more than these
abbrev pub most_said : ℕ
most_said = 65539

-- the bytes given are as many as the page says
unfoldable pub length_said : List ℕ → Bool
length_said p = says p (length p)

-- the generation code, on a page and in a configuration
abbrev pub generation_on : List ℕ → ℕ
generation_on p = big (four_at p 4)

abbrev pub generation_of : List ℕ → ℕ
generation_of c = big (four_at c 0)

-- 2: fewer than 4 bytes
unfoldable pub size_tested : List ℕ → Answer
size_tested p = unless (leb 4 (length p)) PageTooShort (Ok tt)

-- 3: another page code
unfoldable pub code_tested : List ℕ → ℕ → Answer
code_tested p code = unless (eqb (get_or p 0 0) code) PageCode (Ok tt)

-- 4: the n bytes given are not page length + 4
abbrev pub given_tested : List ℕ → ℕ → Answer
given_tested p n = unless (says p n) PageLength (Ok tt)

unfoldable pub said_tested : List ℕ → Answer
said_tested p = given_tested p (length p)

-- 2 to 4: the frame of any page
unfoldable pub framed : List ℕ → ℕ → Answer
framed p code = next (size_tested p) (next (code_tested p code) (said_tested p))

-- 12: not the n bytes that the type list needs
unfoldable pub length_tested : List ℕ → ℕ → Answer
length_tested p n = unless (eqb (length p) n) NeededLength (Ok tt)

-- 5: another generation code
unfoldable pub generation_tested : List ℕ → List ℕ → Answer
generation_tested c p = unless (eqb (generation_on p) (generation_of c)) Generation (Ok tt)

-- 2 to 4: the frame; 12: the length of n slots; 5: the generation code
unfoldable pub headed : List ℕ → List ℕ → ℕ → ℕ → Answer
headed c p code n = next (framed p code) (next (length_tested p (slot_place n)) (generation_tested c p))

-- 1 to 4, 12, 5: the shelf, and the header of a page for it
unfoldable pub page_tested : List ℕ → List ℕ → ℕ → Answer
page_tested s p code = next (shelf_tested s) (headed s p code (slots_of s))

-- 1 to 4, 12, 5: the configuration, and the header of a page read under it
unfoldable pub read_tested : List ℕ → List ℕ → ℕ → Answer
read_tested c p code = next (configuration_tested c) (headed c p code (slots_of c))

-- the shelf is well formed, and the page has the bytes of all its slots
abbrev pub HasPage : List ℕ → List ℕ → Type 0
HasPage s p = (well_formed s ≡ true) × (slot_place (slots_of s) ≤ length p)

-- of a page of m bytes: byte 0 the code, byte 1 the page's own, bytes 2 and 3 length minus 4, bytes 4 to 7 the generation code
abbrev pub head_of : List ℕ → ℕ → ℕ → ℕ → List ℕ
head_of c code own m = code ∷ own ∷ (bytes 2 (m - 4) ++ four_at c 0)

-- the list with it put into it, each half where it fits
abbrev pub head_of_put : List ℕ → List ℕ → ℕ → ℕ → ℕ → List ℕ
head_of_put c out code own m = put_four (put_four out 0 (code ∷ own ∷ bytes 2 (m - 4))) 4 (four_at c 0)

-- the same of a page of n slots
unfoldable pub header : List ℕ → ℕ → ℕ → ℕ → List ℕ
header c code own n = head_of c code own (slot_place n)

unfoldable pub head_put : List ℕ → List ℕ → ℕ → ℕ → ℕ → List ℕ
head_put c out code own n = head_of_put c out code own (slot_place n)
