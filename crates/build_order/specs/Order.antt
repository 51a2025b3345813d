-- The order of lists by a count, and then by the dictionary. Assumes nothing.
use Rattle.std.specs.Prelude.{◌≡◌, Bool, ◌&&◌, ◌||◌, List, [], ◌∷◌, ◌⊎◌, ℕ, ◌<◌, eqb, ltb}

-- p stands before q in the dictionary, or is q
abbrev pub InOrder : List ℕ → List ℕ → Type 0
InOrder [] q = Unit {0}
InOrder (a ∷ p) [] = ⊥
InOrder (a ∷ p) (b ∷ q) = (a < b) ⊎ ((a ≡ b) × InOrder p q)

-- p with the count m comes before q with the count n, or is q: it counts less, or as much and is not behind in the dictionary
abbrev pub NotAfter : ℕ → List ℕ → ℕ → List ℕ → Type 0
NotAfter m p n q = (m < n) ⊎ ((m ≡ n) × InOrder p q)

-- the count m comes before the count n, or is the same and x is the smaller number
abbrev pub sooner : ℕ → ℕ → ℕ → ℕ → Bool
sooner m x n y = ltb m n || (eqb m n && ltb x y)
