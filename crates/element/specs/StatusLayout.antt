-- How a status element lays out what it shows: each of its bytes is cut into pieces from bit 7 down, and a piece is a field or reserved.
-- A record has the fields of bytes 1 to 3 in the order of the page, a byte for each, and zeros behind them, twelve in all. Assumes nothing.
use Rattle.std.specs.Prelude.{Bool, List, [], ◌∷◌, ◌++◌, ℕ, zero, suc, ◌+◌, ◌-◌, ◌*◌, ◌/◌, ◌%◌, ◌^◌, leb, get_or}
use Rattle.std.specs.Int.Bits.{bit_and, bit_or}
use Rattle.bits.specs.Choice.{all_below}

-- so many bits, of a field or reserved
pub data Piece : Type 0 where
  field : ℕ → Piece
  reserved : ℕ → Piece

-- one bit
abbrev pub flag : Piece
flag = field 1

-- the bits of all pieces
abbrev pub size : List Piece → ℕ
size [] = 0
size (field w ∷ ps) = w + size ps
size (reserved w ∷ ps) = w + size ps

-- how many fields there are
abbrev pub count : List Piece → ℕ
count [] = 0
count (field w ∷ ps) = suc (count ps)
count (reserved w ∷ ps) = count ps

-- the bits of the fields, as a mask
abbrev pub field_mask : List Piece → ℕ
field_mask [] = 0
field_mask (field w ∷ ps) = (2 ^ w - 1) * 2 ^ size ps + field_mask ps
field_mask (reserved w ∷ ps) = field_mask ps

-- the most that each field holds
abbrev pub most_in : List Piece → List ℕ
most_in [] = []
most_in (field w ∷ ps) = (2 ^ w - 1) ∷ most_in ps
most_in (reserved w ∷ ps) = most_in ps

-- the fields of a byte
abbrev pub fields_in : List Piece → ℕ → List ℕ
fields_in [] b = []
fields_in (field w ∷ ps) b = b / 2 ^ size ps % 2 ^ w ∷ fields_in ps b
fields_in (reserved w ∷ ps) b = fields_in ps b

-- the byte that has these fields, from the i-th of v on; what is more than a field holds is left out
abbrev pub byte_from : List Piece → List ℕ → ℕ → ℕ
byte_from [] v i = 0
byte_from (field w ∷ ps) v i = get_or v i 0 % 2 ^ w * 2 ^ size ps + byte_from ps v (suc i)
byte_from (reserved w ∷ ps) v i = byte_from ps v i

-- bytes 1 to 3 of a status element
pub record StatusLayout : Type 0 where
  pub second : List Piece
  pub third : List Piece
  pub fourth : List Piece

-- zeros behind a list, so that there are n in all
abbrev pub padded : ℕ → List ℕ → List ℕ
padded zero v = []
padded (suc n) [] = 0 ∷ padded n []
padded (suc n) (x ∷ v) = x ∷ padded n v

-- what three bytes show, as twelve
abbrev pub twelve : StatusLayout → ℕ → ℕ → ℕ → List ℕ
twelve l b c d = padded 12 (fields_in l.second b ++ (fields_in l.third c ++ fields_in l.fourth d))

-- the three bytes that show the fields of v, from the i-th on
abbrev pub three : StatusLayout → List ℕ → ℕ → List ℕ
three l v i =
    byte_from l.second v i
    ∷ byte_from l.third v (i + count l.second)
    ∷ byte_from l.fourth v (i + (count l.second + count l.third))
    ∷ []

-- the most that each of the twelve holds; a byte behind the last field shows nothing
abbrev pub most_of : StatusLayout → List ℕ
most_of l = padded 12 (most_in l.second ++ (most_in l.third ++ most_in l.fourth))

-- the lowest bit of each field in the number that four bytes say; b bits stand below the byte
abbrev pub shifts_in : ℕ → List Piece → List ℕ
shifts_in b [] = []
shifts_in b (field w ∷ ps) = (b + size ps) ∷ shifts_in b ps
shifts_in b (reserved w ∷ ps) = shifts_in b ps

abbrev pub shifts_of : StatusLayout → List ℕ
shifts_of l = padded 12 (shifts_in 16 l.second ++ (shifts_in 8 l.third ++ shifts_in 0 l.fourth))

-- fields by these: one cut out of such a number, and put onto one that has no bit there
unfoldable pub cut_at : ℕ → ℕ → ℕ → ℕ
cut_at n s m = bit_and (n / 2 ^ (s % 32)) m

unfoldable pub put_onto : ℕ → ℕ → ℕ → ℕ → ℕ
put_onto x s m n = bit_or (bit_and x m * 2 ^ (s % 32) % 2 ^ 32) n

-- all of them
abbrev pub cuts : ℕ → List ℕ → List ℕ → List ℕ
cuts n [] ms = []
cuts n (s ∷ ss) [] = []
cuts n (s ∷ ss) (m ∷ ms) = cut_at n s m ∷ cuts n ss ms

abbrev pub puts : List ℕ → List ℕ → List ℕ → ℕ → ℕ
puts [] ms v i = 0
puts (s ∷ ss) [] v i = 0
puts (s ∷ ss) (m ∷ ms) v i = put_onto (get_or v i 0) s m (puts ss ms v (suc i))

-- each of the first n is at most what it may be
abbrev pub holds : List ℕ → List ℕ → ℕ → Bool
holds m v i = leb (get_or v i 0) (get_or m i 0)

abbrev pub fit : List ℕ → List ℕ → ℕ → Bool
fit m v n = all_below (holds m v) n
