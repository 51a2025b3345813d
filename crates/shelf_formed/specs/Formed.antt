-- Well-formed shelves. Assumes nothing.
use Rattle.std.specs.Prelude.{◌≡◌, Bool, true, ◌&&◌, List, ℕ, ◌+◌, eqb, leb, ltb, length, get_or, Some, None, Option}
use Rattle.bits.specs.Choice.{pick, all_below}
use Rattle.bits.specs.Bits.{printable}
use Rattle.element.specs.Types.{served}
use Rattle.element.specs.Settings.{fields_formed}
use Rattle.shelf_formed.specs.declared.Sizes.{Sizes}
use Rattle.shelf.specs.Limits.{most_types, most_elements, most_in_type, most_text, type_size, type_place, text_place, element_place, block_length, HasTypes}
use Rattle.shelf.specs.Types.{types_of, type_code, type_count, text_length, elements_of, kind_at}
use Rattle.shelf.specs.Elements.{settings_at, thresholds_at, reading_at, nominal_at, spare_at}

-- four bytes are zero
abbrev pub zeros : List ℕ → Bool
zeros e = ((eqb (get_or e 0 0) 0 && eqb (get_or e 1 0) 0) && eqb (get_or e 2 0) 0) && eqb (get_or e 3 0) 0

-- at least one type and not too many; the three bytes after their number are zero
unfoldable pub head_formed : List ℕ → Bool
head_formed s =
    (((leb 1 (types_of s) && leb (types_of s) most_types) && eqb (get_or s 41 0) 0) && eqb (get_or s 42 0) 0) && eqb (get_or s 43 0) 0

-- each byte of the text is printable, and zeros stand after its end
abbrev pub text_byte_formed : List ℕ → ℕ → ℕ → Bool
text_byte_formed s t i =
    let b : ℕ = get_or s (text_place t + i) 0 in
    pick (ltb i (text_length s t)) (printable b) (eqb b 0)

unfoldable pub text_formed : List ℕ → ℕ → Bool
text_formed s t = all_below (text_byte_formed s t) most_text

unfoldable pub type_formed : List ℕ → ℕ → Bool
type_formed s t =
    (((served (type_code s t)
    && leb (type_count s t) most_in_type)
    && leb (text_length s t) most_text)
    && eqb (get_or s (type_place t + 3) 0) 0)
    && text_formed s t

-- past the last type all bytes are zero
abbrev pub type_byte_empty : List ℕ → ℕ → ℕ → Bool
type_byte_empty s t i = eqb (get_or s (type_place t + i) 0) 0

unfoldable pub type_empty : List ℕ → ℕ → Bool
type_empty s t = all_below (type_byte_empty s t) type_size

unfoldable pub slot_formed : List ℕ → ℕ → ℕ → Bool
slot_formed s n t = pick (ltb t n) (type_formed s t) (type_empty s t)

unfoldable pub types_formed : List ℕ → ℕ → Bool
types_formed s n = all_below (slot_formed s n) most_types

unfoldable pub spare_clear : List ℕ → ℕ → Bool
spare_clear s j = zeros (spare_at s j)

-- what is stored of element j is what its type may have, and its spare bytes are zero
unfoldable pub element_formed : List ℕ → ℕ → Bool
element_formed s j = fields_formed (kind_at s j) (settings_at s j) (thresholds_at s j) (reading_at s j) (nominal_at s j) && spare_clear s j

unfoldable pub elements_formed : List ℕ → ℕ → Bool
elements_formed s n = all_below (element_formed s) n

-- what a configuration tells: the types, and not too many elements in all
unfoldable pub front_formed : List ℕ → Bool
front_formed s = (head_formed s && types_formed s (types_of s)) && leb (elements_of s) most_elements

-- the same, of a block that has these bytes
abbrev pub HasFront : List ℕ → Type 0
HasFront s = (front_formed s ≡ true) × HasTypes s

-- the block has just the bytes that its elements and names need, and each element is formed; any bytes mean some name
unfoldable pub well_formed : List ℕ → Bool
well_formed s = (front_formed s && eqb (length s) (block_length (types_of s) (elements_of s))) && elements_formed s (elements_of s)

-- a configuration is the front of a shelf block, without its elements
unfoldable pub configuration_formed : List ℕ → Bool
configuration_formed s = front_formed s && eqb (length s) (element_place 0)

-- how many types and elements there are, if the test passed
abbrev pub opened_if : Bool → Sizes → Option Sizes
opened_if t z = pick t (Some z) None

abbrev pub sizes_if : Bool → List ℕ → Option Sizes
sizes_if t s = opened_if t (record { types = types_of s; elements = elements_of s })

unfoldable pub fronted : List ℕ → Option Sizes
fronted s = sizes_if (front_formed s) s

-- a block is opened in stages: the front, if it has the bytes of one; just the bytes that a shelf of these sizes needs; each element
abbrev pub front_opened : List ℕ → Option Sizes
front_opened s = pick (leb (element_place 0) (length s)) (fronted s) None

abbrev pub as_long : List ℕ → Sizes → Bool
as_long s z = eqb (length s) (block_length z.types z.elements)

abbrev pub block_opened : List ℕ → Sizes → Option Sizes
block_opened s z = opened_if (as_long s z) z

abbrev pub elements_opened : List ℕ → Sizes → Option Sizes
elements_opened s z = opened_if (as_long s z && elements_formed s z.elements) z

unfoldable pub opened : List ℕ → Option Sizes
opened s = sizes_if (well_formed s) s

unfoldable pub configuration_opened : List ℕ → Option Sizes
configuration_opened s = sizes_if (configuration_formed s) s
