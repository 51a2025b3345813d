-- The limits of voltages and currents: the paper's signed inequalities, as the code tests them on numbers that are never below 0.
-- Assumes nothing.
use mathlib.Core.Path.{◌≡◌, refl, sym, ap, ◌∙◌}
use mathlib.Core.Bool.{Bool, true, false, cond}
use Prim.Native.Nat.{ℕ, zero, suc, ◌+◌, ◌*◌, ◌-◌, ◌%◌, ◌<◌, ◌≤◌}
use native.Mathlib.Nat.{mul-le-mul_left, le_of_lt}
use native.Mathlib.Omega.{arith}
use lib.Dec.{ltb}
use lib.IntN.{pos, negsuc, neg_ℤ, sub_ℕ, ◌-ℤ◌, ◌*ℤ◌}
use lib.Signed.{lt_z}
use mir.Val.{Fits, sel}
use mir.Syntax.{w8, w16}
use borrow.Author.Tests.{ltb-true, ltb-false, lt-ltb, le-ltb}
use Rattle.element.specs.Verdict.{signed}

-- a nominal times a limit is bounded
pub scaled : (n l : ℕ) → Fits w16 n → Fits w8 l → n * l ≤ n * 256
scaled n l h k = mul-le-mul_left n (le_of_lt k.fits)

ltb_same : (a b c d : ℕ) → (a < b → c < d) → (b ≤ a → d ≤ c) → ltb a b ≡ ltb c d
ltb_same a b c d f g = go (ltb a b) refl
  where
    go : (t : Bool) → ltb a b ≡ t → t ≡ ltb c d
    go true e = sym (lt-ltb c d (f (ltb-true a b e)))
    go false e = sym (le-ltb c d (g (ltb-false a b e)))

-- nothing that is not below 0 is below what is not above 0
not_below : (x m : ℕ) → lt_z (pos x) (neg_ℤ (pos m)) ≡ false
not_below x zero = le-ltb x 0 (omega arith)
not_below x (suc m) = refl

-- x < 200 × (a − b), with each term on the side where it is added
moved : (x a b : ℕ) → lt_z (pos x) (pos 200 *ℤ sub_ℕ a b) ≡ ltb (x + 200 * b) (200 * a)
moved x a b = go (ltb a b) refl
  where
    go : (t : Bool) → ltb a b ≡ t → lt_z (pos x) (pos 200 *ℤ cond t (negsuc (b - suc a)) (pos (a - b))) ≡ ltb (x + 200 * b) (200 * a)
    go true e = not_below x (200 * suc (b - suc a)) ∙ sym (le-ltb (x + 200 * b) (200 * a) (omega (arith, ltb-true a b e)))
    go false e =
        let h = ltb-false a b e in
        ltb_same x (200 * (a - b)) (x + 200 * b) (200 * a) (λ l. omega arith) (λ l. omega arith)

-- differences of signed numbers, each as one of numbers that are not below 0
sub_zero : (a : ℕ) → pos (a + 0) ≡ sub_ℕ a 0
sub_zero a = rw (le-ltb a 0 (omega arith)) (ap pos (omega arith))

pos_pos : (a b : ℕ) → pos a -ℤ pos b ≡ sub_ℕ a b
pos_pos a zero = sub_zero a
pos_pos a (suc b) = refl

neg_below : (x k b : ℕ) → lt_z (pos x) (pos 200 *ℤ (negsuc k -ℤ pos b)) ≡ false
neg_below x k zero = moved x 0 (suc k) ∙ le-ltb (x + 200 * suc k) (200 * 0) (omega arith)
neg_below x k (suc b) = not_below x (200 * suc (suc (k + b)))

-- a signed number plus 32,768
abbrev lifted : ℕ → ℕ
lifted v = (v + 32768) % 65536

module _ (v n x : ℕ) (h : v < 65536) where
  pub over_moved : lt_z (pos x) (pos 200 *ℤ (signed v -ℤ pos n)) ≡ ltb (x + 200 * (n + 32768)) (200 * lifted v)
  over_moved = go (ltb v 32768) refl
    where
      go : (t : Bool) → ltb v 32768 ≡ t → lt_z (pos x) (pos 200 *ℤ (sel t (pos v) (negsuc (65536 - suc v)) -ℤ pos n)) ≡ ltb (x + 200 * (n + 32768)) (200 * lifted v)
      go true e =
          let l = ltb-true v 32768 e in
          rw (pos_pos v n) (moved x v n ∙ ltb_same (x + 200 * n) (200 * v) (x + 200 * (n + 32768)) (200 * lifted v) (λ m. omega arith) (λ m. omega arith))
      go false e =
          let l = ltb-false v 32768 e in
          neg_below x (65536 - suc v) n ∙ sym (le-ltb (x + 200 * (n + 32768)) (200 * lifted v) (omega arith))

  pub under_moved : lt_z (pos x) (pos 200 *ℤ (pos n -ℤ signed v)) ≡ ltb (x + 200 * lifted v) (200 * (n + 32768))
  under_moved = go (ltb v 32768) refl
    where
      go : (t : Bool) → ltb v 32768 ≡ t → lt_z (pos x) (pos 200 *ℤ (pos n -ℤ sel t (pos v) (negsuc (65536 - suc v)))) ≡ ltb (x + 200 * lifted v) (200 * (n + 32768))
      go true e =
          let l = ltb-true v 32768 e in
          rw (pos_pos n v) (moved x n v ∙ ltb_same (x + 200 * v) (200 * n) (x + 200 * lifted v) (200 * (n + 32768)) (λ m. omega arith) (λ m. omega arith))
      go false e =
          let l = ltb-false v 32768 e in
          ltb_same x (200 * (n + suc (65536 - suc v))) (x + 200 * lifted v) (200 * (n + 32768)) (λ m. omega arith) (λ m. omega arith)
