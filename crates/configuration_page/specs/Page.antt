-- The configuration page of a front s, a shelf block or a configuration. Assumes nothing.
use Rattle.std.specs.Prelude.{List, [], ◌∷◌, ◌++◌, ℕ, ◌+◌, ◌*◌, ◌-◌}
use Rattle.bits.specs.Numbers.{bytes}
use Rattle.bits.specs.Places.{four_at}
use Rattle.bits.specs.Rows.{joined, bytes_at, row_start}
use Rattle.shelf.specs.Limits.{text_place}
use Rattle.shelf.specs.Types.{types_of, type_code, type_count, text_length}

-- where the four bytes of type t stand: behind 48 bytes
abbrev pub header_place : ℕ → ℕ
header_place t = 48 + 4 * t

-- of type t: code, count, a zero byte, and the length of its text
abbrev pub type_header : List ℕ → ℕ → List ℕ
type_header s t = type_code s t ∷ type_count s t ∷ 0 ∷ text_length s t ∷ []

unfoldable pub text_of : List ℕ → ℕ → List ℕ
text_of s t = bytes_at s (text_place t) (text_length s t)

-- the text of type t stands behind all headers and the texts before it
abbrev pub text_start : List ℕ → ℕ → ℕ
text_start s t = row_start (header_place (types_of s)) (text_length s) t

unfoldable pub configuration_length : List ℕ → ℕ
configuration_length s = text_start s (types_of s)

-- the 48 bytes before the headers, n bytes following the first four: page code, zero, n; generation code; process 1 of 1, subenclosure 0,
-- number of types, length of what follows; identification. A well-formed front has at most 336 bytes on its page, so two hold n
unfoldable pub fixed_part : List ℕ → ℕ → List ℕ
fixed_part s n = ((0x01 ∷ 0 ∷ bytes 2 n) ++ four_at s 0 ++ (0x11 ∷ 0 ∷ types_of s ∷ 0x24 ∷ [])) ++ bytes_at s 4 36

unfoldable pub configuration_page : List ℕ → List ℕ
configuration_page s = fixed_part s (configuration_length s - 4) ++ joined (type_header s) (types_of s) ++ joined (text_of s) (types_of s)
