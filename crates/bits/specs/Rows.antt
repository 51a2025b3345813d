-- Rows of bytes, one after the other. Assumes nothing.
use Rattle.std.specs.Prelude.{List, [], ◌∷◌, ◌++◌, ℕ, zero, suc, ◌+◌, leb, length, get_or, take, drop}
use Rattle.bits.specs.Choice.{pick, sum_below}

-- f 0, f 1, .. below n, one after the other
abbrev pub joined : (ℕ → List ℕ) → ℕ → List ℕ
joined f zero = []
joined f (suc n) = joined f n ++ f n

-- where row i starts, if the rows have the widths w, the first starts at k, and each other where the one before it ends
unfoldable pub row_start : ℕ → (ℕ → ℕ) → ℕ → ℕ
row_start k w i = k + sum_below w i

-- the n bytes from k on
abbrev pub one_at : List ℕ → ℕ → ℕ → List ℕ
one_at s k i = get_or s (k + i) 0 ∷ []

unfoldable pub bytes_at : List ℕ → ℕ → ℕ → List ℕ
bytes_at s k n = joined (one_at s k) n

-- the list with these bytes from k on, or as it is where they would not fit
unfoldable pub put_bytes : List ℕ → ℕ → List ℕ → List ℕ
put_bytes s k f = pick (leb (k + length f) (length s)) (take k s ++ f ++ drop (k + length f) s) s

-- the list with f 0, f 1, .. below n put at their places, one after the other; each only where it fits
abbrev pub rows_put : (ℕ → ℕ) → (ℕ → List ℕ) → List ℕ → ℕ → List ℕ
rows_put at f s zero = s
rows_put at f s (suc n) = put_bytes (rows_put at f s n) (at n) (f n)
