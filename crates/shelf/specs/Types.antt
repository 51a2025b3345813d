-- The types of a shelf s, and the type of each element. Assumes nothing.
use Rattle.std.specs.Prelude.{Bool, not, List, ℕ, zero, suc, ◌+◌, ltb, get_or}
use Rattle.bits.specs.Choice.{first_below, sum_below}
use Rattle.element.specs.declared.types.Kind.{Kind}
use Rattle.element.specs.Types.{kind_of}
use Rattle.shelf.specs.declared.types.Run.{Run}
use Rattle.shelf.specs.Limits.{most_types, type_place}

abbrev pub types_of : List ℕ → ℕ
types_of s = get_or s 40 0

-- of type t: its code, its count of elements, and the length of its text
abbrev pub type_code : List ℕ → ℕ → ℕ
type_code s t = get_or s (type_place t) 0

abbrev pub type_count : List ℕ → ℕ → ℕ
type_count s t = get_or s (type_place t + 1) 0

abbrev pub text_length : List ℕ → ℕ → ℕ
text_length s t = get_or s (type_place t + 2) 0

-- how many elements the first t types have
unfoldable pub before : List ℕ → ℕ → ℕ
before s t = sum_below (type_count s) t

unfoldable pub elements_of : List ℕ → ℕ
elements_of s = before s most_types

-- element j stands before the end of type t
abbrev pub within : List ℕ → ℕ → ℕ → Bool
within s j t = ltb j (before s (t + 1))

-- the type of element j: the first that ends after it
unfoldable pub type_of : List ℕ → ℕ → ℕ
type_of s j = first_below (within s j) most_types

unfoldable pub kind_at : List ℕ → ℕ → Kind
kind_at s j = kind_of (type_code s (type_of s j))

-- element j stands behind the end of type t
abbrev pub ended_by : List ℕ → ℕ → ℕ → Bool
ended_by s j t = not (within s j t)

-- type t with its elements, and the type of element j so
abbrev pub run_with : List ℕ → ℕ → ℕ → ℕ → Run
run_with s t a e = record { kind = kind_of (type_code s t); number = t; before = a; end = e }

abbrev pub run_of : List ℕ → ℕ → Run
run_of s t = run_with s t (before s t) (before s (t + 1))

abbrev pub run_at : List ℕ → ℕ → Run
run_at s j = run_of s (type_of s j)

-- what a walk over the elements has before element j: the first type, or that of the element before it
abbrev pub carried : List ℕ → ℕ → Run
carried s zero = run_of s 0
carried s (suc j) = run_at s j
