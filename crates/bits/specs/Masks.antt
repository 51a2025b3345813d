-- Four bytes under a mask for each. Assumes nothing.
use Rattle.std.specs.Prelude.{Bool, ◌&&◌, List, ℕ, get_or}
use Rattle.bits.specs.Choice.{first_of_four}
use Rattle.bits.specs.Bits.{within}

-- none of the four has a bit but those of its mask
abbrev pub all_within : List ℕ → List ℕ → Bool
all_within m e =
    ((within (get_or m 0 0) (get_or e 0 0) && within (get_or m 1 0) (get_or e 1 0)) && within (get_or m 2 0) (get_or e 2 0))
    && within (get_or m 3 0) (get_or e 3 0)

-- byte j has none
abbrev pub byte_within : List ℕ → List ℕ → ℕ → Bool
byte_within m e j = within (get_or m j 0) (get_or e j 0)

-- the first that has another bit, 4 if none has one
abbrev pub first_outside : List ℕ → List ℕ → ℕ
first_outside m e = first_of_four (byte_within m e)
