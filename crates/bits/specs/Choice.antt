-- Choosing by a test, and testing every number below a bound. Assumes nothing.
use Rattle.std.specs.Prelude.{Bool, true, false, ◌&&◌, ltb, ℕ, zero, suc, ◌+◌}

abbrev pub pick : {A : Type 0} → Bool → A → A → A
pick true a b = a
pick false a b = b

-- the first of four that does not hold, 4 if all do
unfoldable pub first_of : Bool → Bool → Bool → Bool → ℕ
first_of a b c d = pick a (pick b (pick c (pick d 4 3) 2) 1) 0

-- the first of four bytes at which the test f fails, 4 if it passes at each
abbrev pub first_of_four : (ℕ → Bool) → ℕ
first_of_four f = first_of (f 0) (f 1) (f 2) (f 3)

-- the test f passes at each number below n
abbrev pub all_below : (ℕ → Bool) → ℕ → Bool
all_below f zero = true
all_below f (suc n) = all_below f n && f n

-- the first number below n at which the test f passes, or n where there is none
abbrev pub first_below : (ℕ → Bool) → ℕ → ℕ
first_below f zero = 0
first_below f (suc n) = pick (ltb (first_below f n) n) (first_below f n) (pick (f n) n (suc n))

-- of rows of four bytes: where each stands is told, and which of its bytes is the first refused, 4 if none is
abbrev pub refused_in : (ℕ → ℕ) → ℕ → Bool
refused_in g i = ltb (g i) 4

-- where the first refused byte of n rows stands, or where the rows end
abbrev pub offence_in : (ℕ → ℕ) → (ℕ → ℕ) → ℕ → ℕ
offence_in at g n =
    let i : ℕ = first_below (refused_in g) n in
    pick (ltb i n) (at i + g i) (at n)

-- f 0 + f 1 + .. below n
abbrev pub sum_below : (ℕ → ℕ) → ℕ → ℕ
sum_below f zero = 0
sum_below f (suc n) = sum_below f n + f n
