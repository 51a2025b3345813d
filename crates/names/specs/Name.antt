-- A name of 0 to 32 printable bytes, and how it stands in 32. Any bytes mean some name. Assumes nothing.
use Rattle.std.specs.Prelude.{Bool, ◌&&◌, List, ◌++◌, ℕ, ◌+◌, ◌*◌, ◌-◌, eqb, leb, length, get_or, replicate}
use Rattle.bits.specs.Bits.{printable}
use Rattle.bits.specs.Choice.{all_below}
use Rattle.bits.specs.Rows.{bytes_at}
use Rattle.bits.specs.Texts.{printable_run, same_bytes}
use Rattle.shelf.specs.Limits.{most_text}

-- the name at a place ends at the first byte that is not printable, or after 32
unfoldable pub name_length : List ℕ → ℕ → ℕ
name_length s at = printable_run s at most_text

unfoldable pub name_at : List ℕ → ℕ → List ℕ
name_at s at = bytes_at s at (name_length s at)

-- name i of those that stand from k on
unfoldable pub name_in : List ℕ → ℕ → ℕ → List ℕ
name_in s k i = name_at s (k + most_text * i)

-- a text that is a name
abbrev pub printable_at : List ℕ → ℕ → Bool
printable_at x i = printable (get_or x i 0)

unfoldable pub is_name : List ℕ → Bool
is_name x = leb (length x) most_text && all_below (printable_at x) (length x)

-- a name as it is put: zeros behind its end
unfoldable pub padded : List ℕ → List ℕ
padded x = x ++ replicate (most_text - length x) 0

-- two texts are equal: as long, and the same in every byte
unfoldable pub equal : List ℕ → List ℕ → Bool
equal x y = eqb (length x) (length y) && same_bytes x 0 y (length x)
