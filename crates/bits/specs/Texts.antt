-- Bytes as texts: how far they are printable, and whether two are the same. Assumes nothing.
use Rattle.std.specs.Prelude.{Bool, not, List, ℕ, ◌+◌, eqb, get_or}
use Rattle.bits.specs.Bits.{printable}
use Rattle.bits.specs.Choice.{all_below, first_below}

-- byte i of those from k on is not one that a text may have
abbrev pub unprintable : List ℕ → ℕ → ℕ → Bool
unprintable s k i = not (printable (get_or s (k + i) 0))

-- how many of the n bytes from k on stand before the first such
unfoldable pub printable_run : List ℕ → ℕ → ℕ → ℕ
printable_run s k n = first_below (unprintable s k) n

-- byte i of those from k on is that of x
abbrev pub same_byte : List ℕ → ℕ → List ℕ → ℕ → Bool
same_byte s k x i = eqb (get_or s (k + i) 0) (get_or x i 0)

-- the n bytes from k on are the first n of x
unfoldable pub same_bytes : List ℕ → ℕ → List ℕ → ℕ → Bool
same_bytes s k x n = all_below (same_byte s k x) n
