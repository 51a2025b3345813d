-- Entries by numbers that four of their bytes each say. Assumes nothing.
use Rattle.std.specs.Prelude.{Bool, ◌&&◌, List, ℕ, get_or}
use Rattle.bits.specs.Bits.{within}
use Rattle.bits.specs.Places.{four_at}
use Rattle.bits.specs.Numbers.{big}
use Rattle.element.specs.declared.types.Kind.{Kind}
use Rattle.element.specs.StatusLayout.{most_of, shifts_of, put_onto, puts}
use Rattle.element.specs.Types.{rules_of}

-- four fields put onto a number, by their lowest bits and the most that each holds
abbrev pub four_put : List ℕ → List ℕ → List ℕ → ℕ → ℕ
four_put x s m n =
    put_onto (get_or x 0 0) (get_or s 0 0) (get_or m 0 0)
    (put_onto (get_or x 1 0) (get_or s 1 0) (get_or m 1 0)
    (put_onto (get_or x 2 0) (get_or s 2 0) (get_or m 2 0) (put_onto (get_or x 3 0) (get_or s 3 0) (get_or m 3 0) n)))

-- the number that bytes 1 to 3 say of a status element which shows an entry
unfoldable pub number_of : Kind → List ℕ → ℕ
number_of k x = puts (shifts_of (rules_of k).status) (most_of (rules_of k).status) x 4

-- each four bytes of an entry have no bit but those of a mask
unfoldable pub words_within : List ℕ → ℕ → ℕ → ℕ → ℕ → Bool
words_within x head first next last =
    ((within head (big (four_at x 0)) && within first (big (four_at x 4))) && within next (big (four_at x 8))) && within last (big (four_at x 12))
