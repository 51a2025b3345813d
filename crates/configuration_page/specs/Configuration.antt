-- The configuration that a page p tells: the front that a shelf with this page has. Assumes nothing.
use Rattle.std.specs.Prelude.{List, [], ◌∷◌, ◌++◌, ℕ, ◌+◌, ltb, get_or}
use Rattle.bits.specs.Choice.{pick}
use Rattle.bits.specs.Places.{four_at}
use Rattle.bits.specs.Rows.{joined, bytes_at, row_start}
use Rattle.shelf.specs.Limits.{most_types, most_text}
use Rattle.configuration_page.specs.Page.{header_place}
use Rattle.configuration_page.specs.Read.{types_on, header_byte, text_place_on}

-- byte j of the header of type t, zero past the last type
unfoldable pub told_byte : List ℕ → ℕ → ℕ → ℕ
told_byte p j t = pick (ltb t (types_on p)) (header_byte p j t) 0

-- where the text of type t starts; past the last type, where all texts end
abbrev pub told_start : List ℕ → ℕ → ℕ
told_start p t = row_start (header_place (types_on p)) (told_byte p 3) t

-- byte i of the text of type t, zero past its end
unfoldable pub text_byte : List ℕ → ℕ → ℕ → ℕ
text_byte p t i = pick (ltb i (told_byte p 3 t)) (get_or p (text_place_on p t + i) 0) 0

abbrev pub one_told : List ℕ → ℕ → ℕ → List ℕ
one_told p t i = text_byte p t i ∷ []

-- code, count, text length, a zero byte
unfoldable pub head_told : List ℕ → ℕ → List ℕ
head_told p t = told_byte p 0 t ∷ told_byte p 1 t ∷ told_byte p 3 t ∷ 0 ∷ []

unfoldable pub text_told : List ℕ → ℕ → List ℕ
text_told p t = joined (one_told p t) most_text

unfoldable pub type_told : List ℕ → ℕ → List ℕ
type_told p t = head_told p t ++ text_told p t

-- generation code, identification, number of types, three zeros, and the types
unfoldable pub configuration_of : List ℕ → List ℕ
configuration_of p = four_at p 4 ++ bytes_at p 12 36 ++ (types_on p ∷ 0 ∷ 0 ∷ 0 ∷ []) ++ joined (type_told p) most_types
