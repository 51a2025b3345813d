-- What a page has for element j: a slot of its own, and the overall slot of its type. Assumes nothing.
use Rattle.std.specs.Prelude.{List, ℕ, ◌+◌, ◌≤◌, length}
use Rattle.shelf.specs.declared.types.Run.{Run}
use Rattle.shelf.specs.Types.{type_of, kind_at}
use Rattle.page.specs.declared.places.Places.{Places}
use Rattle.page.specs.Slots.{start_of, slot_place}

-- behind the elements before it and the overall slots of the types up to its own
abbrev pub own_slot : List ℕ → ℕ → ℕ
own_slot c j = j + type_of c j + 1

-- the first slot of its type
abbrev pub overall_slot : List ℕ → ℕ → ℕ
overall_slot c j = start_of c (type_of c j)

unfoldable pub places_of : List ℕ → ℕ → Places
places_of c j = record { kind = kind_at c j; overallplace = slot_place (overall_slot c j); ownplace = slot_place (own_slot c j) }

-- the same from the element's type with its elements
unfoldable pub places_in : Run → ℕ → Places
places_in r j = record { kind = r.kind; overallplace = slot_place (r.before + r.number); ownplace = slot_place (j + r.number + 1) }

-- the page p has the bytes of both slots
abbrev pub HasSlots : List ℕ → Places → Type 0
HasSlots p at = (at.overallplace + 4 ≤ length p) × (at.ownplace + 4 ≤ length p)
