-- Bytes at a place of a list. A byte past the end reads as 0. Assumes nothing.
use Rattle.std.specs.Prelude.{List, [], ◌∷◌, ◌≡◌, ℕ, ◌+◌, ◌≤◌, get_or}
use Rattle.bits.specs.Rows.{put_bytes, rows_put}

abbrev pub two_at : List ℕ → ℕ → List ℕ
two_at s k = get_or s k 0 ∷ get_or s (k + 1) 0 ∷ []

abbrev pub four_at : List ℕ → ℕ → List ℕ
four_at s k = get_or s k 0 ∷ get_or s (k + 1) 0 ∷ get_or s (k + 2) 0 ∷ get_or s (k + 3) 0 ∷ []

-- the list with the four bytes f from k on, or as it is where they would not fit
unfoldable pub put_four : List ℕ → ℕ → List ℕ → List ℕ
put_four s k f = put_bytes s k (four_at f 0)

-- the list with f 0, f 1, .. below n put at their places, one after the other, four bytes of each
abbrev pub fours_put : (ℕ → ℕ) → (ℕ → List ℕ) → List ℕ → ℕ → List ℕ
fours_put at f s n = rows_put at (λ i. four_at (f i) 0) s n

-- two lists agree in every byte up to the place k
abbrev pub AlikeTo : ℕ → List ℕ → List ℕ → Type 0
AlikeTo k p q = (i : ℕ) → i ≤ k → get_or p i 0 ≡ get_or q i 0
