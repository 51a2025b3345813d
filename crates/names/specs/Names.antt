-- The names of a shelf s, in the order of the slots of a page: for each type that of its overall element, then those of its individual
-- elements. Assumes nothing.
use Rattle.std.specs.Prelude.{List, ℕ}
use Rattle.shelf.specs.Limits.{element_place}
use Rattle.shelf.specs.Types.{elements_of}
use Rattle.page.specs.Slots.{start_of}
use Rattle.page.specs.Places.{own_slot}
use Rattle.names.specs.Name.{name_in}

-- of the overall or individual element of slot i
unfoldable pub name_of : List ℕ → ℕ → List ℕ
name_of s i = name_in s (element_place (elements_of s)) i

-- of element j, and of the overall element of type t
abbrev pub element_name : List ℕ → ℕ → List ℕ
element_name s j = name_of s (own_slot s j)

abbrev pub overall_name : List ℕ → ℕ → List ℕ
overall_name s t = name_of s (start_of s t)
