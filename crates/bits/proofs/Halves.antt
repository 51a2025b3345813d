-- A byte's halves and bits: what the code's shifts and masks say, in the words of the specification. Assumes nothing.
use mathlib.Core.Path.{◌≡◌, refl, ap, ◌∙◌}
use mathlib.Core.Bool.{Bool, true, false}
use mathlib.Core.List.{List}
use Prim.Native.Nat.{ℕ, ◌/◌, ◌%◌, ◌^◌, ◌<◌, ◌≤◌}
use native.Mathlib.Omega.{arith}
use lib.Dec.{eqb}
use lib.Bits.{bit_and, and_mask}
use borrow.Author.Tests.{eqb-true}
use mir.Val.{Fits}
use mir.Syntax.{w8}
use Rattle.bits.specs.Choice.{all_below}
use Rattle.bits.specs.Bits.{num, bit, only, nibble, join}
use Rattle.bits.proofs.Logic.{same, by_byte, implies, by_byte_if}

-- a mask and the bits that it leaves out, where antt finds them the same test on every byte
pub mask : (m : ℕ) (ks : List ℕ) → all_below (λ b. same (eqb (bit_and b m) 0) (only ks b)) 256 ≡ true
    → (b : ℕ) → Fits w8 b → eqb (bit_and b m) 0 ≡ only ks b
mask m ks t = by_byte (λ b. eqb (bit_and b m) 0) (only ks) t

pub and1 : (n : ℕ) → bit_and n 1 ≡ n % 2
and1 n = and_mask n 1

pub and15 : (n : ℕ) → bit_and n 15 ≡ n % 16
and15 n = and_mask n 4

-- the flags of half a byte are its bits
pub nibble_bits : (a b c d : Bool) → let n : ℕ = nibble a b c d in (bit 3 n ≡ a) × (bit 2 n ≡ b) × (bit 1 n ≡ c) × (bit 0 n ≡ d)
nibble_bits true true true true = (refl, refl, refl, refl)
nibble_bits true true true false = (refl, refl, refl, refl)
nibble_bits true true false true = (refl, refl, refl, refl)
nibble_bits true true false false = (refl, refl, refl, refl)
nibble_bits true false true true = (refl, refl, refl, refl)
nibble_bits true false true false = (refl, refl, refl, refl)
nibble_bits true false false true = (refl, refl, refl, refl)
nibble_bits true false false false = (refl, refl, refl, refl)
nibble_bits false true true true = (refl, refl, refl, refl)
nibble_bits false true true false = (refl, refl, refl, refl)
nibble_bits false true false true = (refl, refl, refl, refl)
nibble_bits false true false false = (refl, refl, refl, refl)
nibble_bits false false true true = (refl, refl, refl, refl)
nibble_bits false false true false = (refl, refl, refl, refl)
nibble_bits false false false true = (refl, refl, refl, refl)
nibble_bits false false false false = (refl, refl, refl, refl)

pub num_small : (a : Bool) → num a ≤ 1
num_small true = omega arith
num_small false = omega arith

pub num_up : (a b : Bool) → (a ≡ true → b ≡ true) → num a ≤ num b
num_up true b h = rw (h refl) (omega arith)
num_up false b h = omega arith

pub nibble_small : (a b c d : Bool) → nibble a b c d < 16
nibble_small a b c d = omega (arith, num_small a, num_small b, num_small c, num_small d)

bit_same : (j k x y : ℕ) → x / 2 ^ j % 2 ≡ y / 2 ^ k % 2 → bit j x ≡ bit k y
bit_same j k x y e = ap (λ n. eqb n 1) e

-- bits 7 to 4 of a byte are those of its high half
pub join_high : (h l : ℕ)
    → let x : ℕ = join h l in (bit 7 x ≡ bit 3 h) × (bit 6 x ≡ bit 2 h) × (bit 5 x ≡ bit 1 h) × (bit 4 x ≡ bit 0 h)
join_high h l = (
  bit_same 7 3 (join h l) h (omega arith),
  bit_same 6 2 (join h l) h (omega arith),
  bit_same 5 1 (join h l) h (omega arith),
  bit_same 4 0 (join h l) h (omega arith),
)

-- four flags joined with a low half are read back
pub flags_high : (a b c d : Bool) (l : ℕ)
    → let x : ℕ = join (nibble a b c d) l in (bit 7 x ≡ a) × (bit 6 x ≡ b) × (bit 5 x ≡ c) × (bit 4 x ≡ d)
flags_high a b c d l =
    let j = join_high (nibble a b c d) l in
    let n = nibble_bits a b c d in (j.0 ∙ n.0, j.1 ∙ n.1, j.2 ∙ n.2, j.3 ∙ n.3)

-- a byte with no bit but these is what f makes of it, where antt finds it so on every byte
pub again_byte : (ks : List ℕ) (f : ℕ → ℕ) → all_below (λ b. implies (only ks b) (eqb (f b) b)) 256 ≡ true
    → (b : ℕ) → b < 256 → only ks b ≡ true → f b ≡ b
again_byte ks f t b h e = eqb-true (f b) b (by_byte_if (only ks) (λ b. eqb (f b) b) t b h e)
