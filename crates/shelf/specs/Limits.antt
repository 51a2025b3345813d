-- The limits of a shelf record: types, elements in all, elements of one type, bytes of a text; and the places that follow from them.
-- They stand here and, for the code, in src/limits.rt. Assumes nothing.
use Rattle.std.specs.Prelude.{List, ℕ, ◌+◌, ◌*◌, ◌≤◌, length}

abbrev pub most_types : ℕ
most_types = 8

abbrev pub most_elements : ℕ
most_elements = 64

abbrev pub most_in_type : ℕ
most_in_type = 64

abbrev pub most_text : ℕ
most_text = 32

-- a type: its code, count, text length, a zero byte, and room for the text
abbrev pub type_size : ℕ
type_size = 4 + most_text

abbrev pub type_place : ℕ → ℕ
type_place t = 44 + type_size * t

abbrev pub text_place : ℕ → ℕ
text_place t = type_place t + 4

-- an element: settings 4, thresholds 4, reading 2, nominal 2, and four zero bytes
abbrev pub element_place : ℕ → ℕ
element_place j = type_place most_types + 16 * j

abbrev pub thresholds_place : ℕ → ℕ
thresholds_place j = element_place j + 4

-- behind n elements the names, as many bytes for each as a name can have: name i, in the order of the slots of a page
abbrev pub name_place : ℕ → ℕ → ℕ
name_place n i = element_place n + most_text * i

-- a block of t types and n elements has a name for each
abbrev pub block_length : ℕ → ℕ → ℕ
block_length t n = name_place n (t + n)

-- so many bytes has the block s: those of all types, of type t its first four, the room for its text, and those of element j
abbrev pub HasTypes : List ℕ → Type 0
HasTypes s = type_place most_types ≤ length s

abbrev pub HasType : List ℕ → ℕ → Type 0
HasType s t = type_place t + 4 ≤ length s

abbrev pub HasText : List ℕ → ℕ → Type 0
HasText s t = text_place t + most_text ≤ length s

abbrev pub HasElement : List ℕ → ℕ → Type 0
HasElement s j = element_place j + 16 ≤ length s
