-- Flags under a mask, and a speed beside them in one byte: what is stored is read back, and the other way round. Assumes nothing.
use mathlib.Core.Path.{◌≡◌, sym, ap, ◌∙◌}
use mathlib.Core.Bool.{Bool, true, ◌&&◌}
use Prim.Native.Nat.{ℕ, ◌+◌, ◌%◌, ◌<◌, ◌≤◌}
use native.Mathlib.Nat.{mod-eq_of_lt}
use native.Mathlib.Omega.{arith}
use lib.Bits.{bit_and, bit_or, and_le_r, and_mod}
use lib.Dec.{eqb, ltb, leb}
use borrow.Author.Tests.{eqb-true, eq-eqb, ltb-true, leb-true}
use Rattle.bits.specs.Choice.{all_below}
use Rattle.bits.specs.Bits.{within}
use Rattle.bits.proofs.Logic.{and_left, and_right, and_both, and_four, below_at, implies, implied}

-- each of these holds of a type's masks, as antt finds by computing it over every byte
abbrev pub keeps : ℕ → Bool
keeps m = ltb m 256 && all_below (λ b. eqb (bit_and (bit_and b m) m) (bit_and b m)) 256

-- flags x under m and a speed y under n in one byte
abbrev pub mixed : ℕ → ℕ → ℕ → ℕ → Bool
mixed m n x y =
    ((eqb (bit_or x y) (x + y) && eqb (bit_and (bit_or x y) m) x) && eqb (bit_and (bit_or x y) n) y) && within (bit_or m n) (bit_or x y)

abbrev pub mixes : ℕ → ℕ → Bool
mixes m n = all_below (λ x. all_below (λ y. implies (within m x && within n y) (mixed m n x y)) 8) 256

abbrev pub splits : ℕ → ℕ → Bool
splits m n = all_below (λ d. implies (within (bit_or m n) d) (eqb (bit_or (bit_and d m) (bit_and d n)) d)) 256

module _ (m : ℕ) (t : keeps m ≡ true) where
  pub mask_small : m < 256
  mask_small = ltb-true m 256 (and_left (ltb m 256) _ t)

  pub kept_small : (b : ℕ) → bit_and b m < 256
  kept_small b = let h = and_le_r b m in let l = mask_small in omega arith

  low : (b : ℕ) → bit_and b m ≡ bit_and (b % 256) m
  low b = sym (mod-eq_of_lt (kept_small b)) ∙ and_mod b m 8 ∙ ap (bit_and (b % 256)) (mod-eq_of_lt mask_small)

  -- what is under the mask stays as it is
  pub kept_twice : (b : ℕ) → bit_and (bit_and b m) m ≡ bit_and b m
  kept_twice b =
      let e = eqb-true _ _ (below_at (λ b. eqb (bit_and (bit_and b m) m) (bit_and b m)) 256 (and_right (ltb m 256) _ t) (b % 256) (omega arith)) in
      ap (λ (x : ℕ). bit_and x m) (low b) ∙ e ∙ sym (low b)

  pub kept_within : (b : ℕ) → within m (bit_and b m) ≡ true
  kept_within b = eq-eqb _ _ (kept_twice b)

module _ (m n : ℕ) (h : keeps m ≡ true) (u : keeps n ≡ true) (l : leb n 7 ≡ true) (t : mixes m n ≡ true) where
  pub code_small : (y : ℕ) → bit_and y n ≡ y → y < 8
  code_small y e = let a = and_le_r y n in let b = leb-true n 7 l in let c : y ≤ n = rw (← e) a in omega arith

  module _ (x y : ℕ) (p : bit_and x m ≡ x) (q : bit_and y n ≡ y) where
    both : (eqb (bit_or x y) (x + y) ≡ true) × (eqb (bit_and (bit_or x y) m) x ≡ true) × (eqb (bit_and (bit_or x y) n) y ≡ true) × (within (bit_or m n) (bit_or x y) ≡ true)
    both =
        let a : x < 256 = rw (← p) (kept_small m h x) in
        let r = below_at (λ x. all_below (λ y. implies (within m x && within n y) (mixed m n x y)) 8) 256 t x a in
        let s = below_at (λ y. implies (within m x && within n y) (mixed m n x y)) 8 r y (code_small y q) in
        and_four (eqb (bit_or x y) (x + y)) (eqb (bit_and (bit_or x y) m) x) (eqb (bit_and (bit_or x y) n) y) (within (bit_or m n) (bit_or x y))
        (implied (within m x && within n y) (mixed m n x y) s (and_both (eq-eqb _ _ p) (eq-eqb _ _ q)))

    pub mix_sum : bit_or x y ≡ x + y
    mix_sum = eqb-true _ _ both.0

    pub mix_flags : bit_and (bit_or x y) m ≡ x
    mix_flags = eqb-true _ _ both.1

    pub mix_speed : bit_and (bit_or x y) n ≡ y
    mix_speed = eqb-true _ _ both.2

    pub mix_within : within (bit_or m n) (bit_or x y) ≡ true
    mix_within = both.3

pub split_again : (m n : ℕ) → splits m n ≡ true → (d : ℕ) → d < 256 → within (bit_or m n) d ≡ true → bit_or (bit_and d m) (bit_and d n) ≡ d
split_again m n t d h e =
    eqb-true _ _ (implied (within (bit_or m n) d) _ (below_at (λ d. implies (within (bit_or m n) d) (eqb (bit_or (bit_and d m) (bit_and d n)) d)) 256 t d h) e)
