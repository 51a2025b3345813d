-- Sums over the numbers below a bound. Assumes nothing.
use mathlib.Core.Path.{◌≡◌, refl, sym}
use mathlib.Core.Logic.{⊎_elim}
use Prim.Native.Nat.{ℕ, zero, suc, ◌+◌, ◌-◌, ◌*◌, ◌<◌, ◌≤◌}
use native.Mathlib.Nat.{not-suc-le-zero, le_of_suc-le-suc, eq-or-lt_of_le, add-zero, mul-suc}
use native.Mathlib.Numerals.{add-one}
use native.Mathlib.Omega.{arith}
use Rattle.bits.specs.Choice.{sum_below}

-- a loop adds one number more
pub sum_next : (f : ℕ → ℕ) (n : ℕ) {a x : ℕ} → a ≡ sum_below f n → x ≡ f n → a + x ≡ sum_below f (n + 1)
sum_next f n e q = rw (add-one, e, q)

-- of the same numbers
pub sum_same : (f g : ℕ → ℕ) (n : ℕ) → ((i : ℕ) → i < n → f i ≡ g i) → sum_below f n ≡ sum_below g n
sum_same f g zero h = refl
sum_same f g (suc n) h = rw (sum_same f g n (λ i l. h i (omega arith)), h n (omega arith))

-- a part is no more than the whole
pub sum_part : (f : ℕ → ℕ) (n i : ℕ) → i < n → sum_below f i + f i ≤ sum_below f n
sum_part f zero i l = absurd (not-suc-le-zero l)
sum_part f (suc n) i l =
    ⊎_elim (λ (e : i ≡ n). rw e (omega arith)) (λ (b : i < n). let r = sum_part f n i b in omega arith) (eq-or-lt_of_le (le_of_suc-le-suc l))

-- of numbers that are no more than b each
pub sum_bound : (f : ℕ → ℕ) (b n : ℕ) → ((i : ℕ) → i < n → f i ≤ b) → sum_below f n ≤ b * n
sum_bound f b zero h = omega arith
sum_bound f b (suc n) h =
    let r = sum_bound f b n (λ i l. h i (omega arith)) in
    let l = h n (omega arith) in
    rw (mul-suc b n) (omega arith)

-- up to a place, and from it on
pub sum_split : (f : ℕ → ℕ) (a n : ℕ) → sum_below f (a + n) ≡ sum_below f a + sum_below (λ i. f (a + i)) n
sum_split f a zero = rw (add-zero a) (sym (add-zero (sum_below f a)))
sum_split f a (suc n) =
    let e : a + suc n ≡ suc (a + n) = omega arith in
    rw e (omega (arith, sum_split f a n))

-- what more numbers add
pub sum_up : (f : ℕ → ℕ) (n m : ℕ) → n ≤ m → sum_below f n ≤ sum_below f m
sum_up f n m l =
    let e : n + (m - n) ≡ m = omega arith in
    rw (← e) (omega (arith, sum_split f n (m - n)))

-- numbers that are zero from n on add nothing
pub sum_past : (f : ℕ → ℕ) (n m : ℕ) → n ≤ m → ((i : ℕ) → n ≤ i → i < m → f i ≡ 0) → sum_below f m ≡ sum_below f n
sum_past f n m l h =
    let e : n + (m - n) ≡ m = omega arith in
    let z = sum_bound (λ i. f (n + i)) 0 (m - n) (λ i k. omega (arith, h (n + i) (omega arith) (omega arith))) in
    rw (← e) (omega (arith, sum_split f n (m - n), z))
