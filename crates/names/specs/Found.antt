-- The element whose name equals a given text. Assumes nothing.
use Rattle.std.specs.Prelude.{Bool, List, ℕ, ltb, Option, Some, None, Result, Ok, Err}
use Rattle.bits.specs.Choice.{pick, first_below}
use Rattle.refusals.specs.declared.Refusal.{Refusal}
use Rattle.refusals.specs.declared.Refusal.TheVariants.{ShelfNotWellFormed}
use Rattle.shelf.specs.Types.{elements_of}
use Rattle.shelf_formed.specs.Formed.{well_formed}
use Rattle.names.specs.Name.{equal}
use Rattle.names.specs.Names.{element_name}

-- element j has the name x
unfoldable pub named : List ℕ → List ℕ → ℕ → Bool
named s x j = equal (element_name s j) x

-- the first that has it, or the number of elements where none has; overall names are not searched
unfoldable pub first_named : List ℕ → List ℕ → ℕ
first_named s x = first_below (named s x) (elements_of s)

-- an element, or nothing, or else why it is refused
abbrev pub FindAnswer : Type 0
FindAnswer = Result (Option ℕ) Refusal

-- of n elements the search stopped at j
abbrev pub found_at : ℕ → ℕ → FindAnswer
found_at j n = pick (ltb j n) (Ok (Some j)) (Ok None)

-- 1; else the first element that has the name, or nothing
unfoldable pub found : List ℕ → List ℕ → FindAnswer
found s x = pick (well_formed s) (found_at (first_named s x) (elements_of s)) (Err ShelfNotWellFormed)

-- the number that tells of no element
abbrev pub no_element : ℕ
no_element = 0xffffffff

-- for C
abbrev pub element_found : FindAnswer → ℕ
element_found (Ok (Some j)) = j
element_found (Ok None) = no_element
element_found (Err r) = no_element
