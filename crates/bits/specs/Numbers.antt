-- Big-endian numbers of any width. Assumes nothing.
use Rattle.std.specs.Prelude.{List, [], ◌∷◌, ◌++◌, ℕ, zero, suc, ◌+◌, ◌*◌, ◌/◌, ◌%◌, ◌<◌}

-- the number that bytes say after those that said n
abbrev pub big_from : ℕ → List ℕ → ℕ
big_from n [] = n
big_from n (b ∷ bs) = big_from (n * 256 + b) bs

-- the number that bytes say, the highest first
abbrev pub big : List ℕ → ℕ
big bs = big_from 0 bs

-- the w bytes that say n; what n has above them is left out
abbrev pub bytes : ℕ → ℕ → List ℕ
bytes zero n = []
bytes (suc w) n = bytes w (n / 256) ++ (n % 256 ∷ [])

-- each number of a list keeps to P
abbrev pub Each : (ℕ → Type 0) → List ℕ → Type 0
Each P [] = Unit {0}
Each P (x ∷ xs) = P x × Each P xs

-- each is a byte
abbrev pub Bytes : List ℕ → Type 0
Bytes bs = Each (λ b. b < 256) bs
