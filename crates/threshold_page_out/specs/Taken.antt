-- What a Threshold Out page makes of a shelf. Assumes nothing.
use Rattle.std.specs.Prelude.{List, ℕ, ◌*◌}
use Rattle.bits.specs.Places.{four_at, fours_put}
use Rattle.bits.specs.Rows.{joined}
use Rattle.element.specs.Thresholds.{taken}
use Rattle.shelf.specs.Limits.{thresholds_place}
use Rattle.shelf.specs.Types.{elements_of}
use Rattle.shelf.specs.Elements.{thresholds_at}
use Rattle.page.specs.declared.places.Places.{Places}
use Rattle.page.specs.Places.{places_of}

-- of the bytes in these two slots and the stored ones, each the first that counts
abbrev pub taken_at : List ℕ → Places → List ℕ → List ℕ
taken_at p at stored = taken (four_at p at.ownplace) (four_at p at.overallplace) stored

-- the thresholds of element j after the page
unfoldable pub thresholds_after : List ℕ → List ℕ → ℕ → List ℕ
thresholds_after s p j = taken_at p (places_of s j) (thresholds_at s j)

-- the thresholds that the page brings the shelf to: four bytes for each element, in the order of the elements
unfoldable pub taken_from : List ℕ → List ℕ → List ℕ
taken_from s p = joined (thresholds_after s p) (elements_of s)

-- the thresholds that a shelf has, in the same form
abbrev pub stored_thresholds : List ℕ → List ℕ
stored_thresholds s = joined (thresholds_at s) (elements_of s)

-- the four bytes of element j in such a list
abbrev pub thresholds_in : List ℕ → ℕ → List ℕ
thresholds_in w j = four_at w (4 * j)

-- the shelf with these thresholds
unfoldable pub with_thresholds : List ℕ → List ℕ → List ℕ
with_thresholds s w = fours_put thresholds_place (thresholds_in w) s (elements_of s)
