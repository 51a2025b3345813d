-- The bits of one byte, 7 the highest and 0 the lowest; which bytes a text may have. Assumes nothing.
use Rattle.std.specs.Prelude.{Bool, true, false, ◌&&◌, List, [], ◌∷◌, ℕ, ◌+◌, ◌*◌, ◌/◌, ◌%◌, ◌^◌, eqb, leb}
use Rattle.std.specs.Int.Bits.{bit_and}

-- 1 for true and 0 for false
abbrev pub num : Bool → ℕ
num true = 1
num false = 0

-- bit k of the byte b, as a number and as a flag
abbrev pub bit_of : ℕ → ℕ → ℕ
bit_of k b = b / 2 ^ k % 2

abbrev pub bit : ℕ → ℕ → Bool
bit k b = eqb (bit_of k b) 1

-- the number that has these bits and no other
abbrev pub mask_of : List ℕ → ℕ
mask_of [] = 0
mask_of (k ∷ ks) = 2 ^ k + mask_of ks

-- no bit of the byte is set but those of the mask m
abbrev pub within : ℕ → ℕ → Bool
within m b = eqb (bit_and b m) b

-- no bit of the byte is set but these
abbrev pub only : List ℕ → ℕ → Bool
only ks b = within (mask_of ks) b

-- four flags as half a byte, the first the highest
abbrev pub nibble : Bool → Bool → Bool → Bool → ℕ
nibble a b c d = 8 * num a + 4 * num b + 2 * num c + num d

-- a byte of its two halves
abbrev pub join : ℕ → ℕ → ℕ
join high low = 16 * (high % 16) + low % 16

-- a byte that a text may have
abbrev pub printable : ℕ → Bool
printable b = leb 0x20 b && leb b 0x7e
