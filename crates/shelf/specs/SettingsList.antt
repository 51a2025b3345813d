-- The settings of all elements as one list w: four bytes for each, in the order of the elements. Assumes nothing.
use Rattle.std.specs.Prelude.{List, ℕ, ◌+◌, ◌*◌, ◌≤◌, length}
use Rattle.bits.specs.Places.{four_at, fours_put}
use Rattle.bits.specs.Rows.{joined}
use Rattle.shelf.specs.Limits.{element_place}
use Rattle.shelf.specs.Types.{elements_of}
use Rattle.shelf.specs.Elements.{settings_at}

-- the list has the bytes of element j
abbrev pub HasSettings : List ℕ → ℕ → Type 0
HasSettings w j = 4 * j + 4 ≤ length w

-- the settings of element j in it
abbrev pub settings_in : List ℕ → ℕ → List ℕ
settings_in w j = four_at w (4 * j)

-- the settings that a shelf has
abbrev pub stored_settings : List ℕ → List ℕ
stored_settings s = joined (settings_at s) (elements_of s)

-- the shelf with these settings
unfoldable pub with_settings : List ℕ → List ℕ → List ℕ
with_settings s w = fours_put element_place (settings_in w) s (elements_of s)
