-- The Element Descriptor page: a descriptor for each overall and each individual element, with its name. Assumes nothing.
use Rattle.std.specs.Prelude.{List, ◌∷◌, ◌++◌, ℕ, ◌+◌, ◌*◌, ◌≤◌, length}
use Rattle.bits.specs.Numbers.{bytes}
use Rattle.bits.specs.Rows.{joined, row_start}
use Rattle.shelf.specs.Limits.{most_types, most_elements, most_text, element_place}
use Rattle.page.specs.Slots.{slots_of}
use Rattle.page.specs.Header.{head_of}
use Rattle.names.specs.Names.{name_of}

-- two zero bytes, the length of the name, the name
unfoldable pub descriptor : List ℕ → List ℕ
descriptor x = 0 ∷ 0 ∷ (bytes 2 (length x) ++ x)

-- of the names f: how long descriptor i is, and where it starts
abbrev pub width : (ℕ → List ℕ) → ℕ → ℕ
width f i = 4 + length (f i)

abbrev pub start_of : (ℕ → List ℕ) → ℕ → ℕ
start_of f i = row_start 8 (width f) i

-- the page of the n names f, for the generation of c. With 72 names of at most 32 bytes it has at most 2,600, so two hold its length
unfoldable pub descriptor_page : List ℕ → (ℕ → List ℕ) → ℕ → List ℕ
descriptor_page c f n = head_of c 0x07 0 (start_of f n) ++ joined (λ i. descriptor (f i)) n

-- the page of a shelf
unfoldable pub names_page : List ℕ → List ℕ
names_page s = descriptor_page s (name_of s) (slots_of s)

-- n names stand in the block or record s from k on
abbrev pub HasNames : List ℕ → ℕ → ℕ → Type 0
HasNames s k n = (k ≤ element_place most_elements) × (n ≤ most_types + most_elements) × (k + most_text * n ≤ length s)
