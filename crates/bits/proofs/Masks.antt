-- Bytes under masks, byte by byte and as one number each: the same, at every width. Assumes nothing.
use mathlib.Core.Path.{◌≡◌, refl, sym, ap, ◌∙◌}
use mathlib.Core.Bool.{Bool, true, false, ◌&&◌}
use mathlib.Core.List.{List, [], ◌∷◌}
use Prim.Native.Nat.{ℕ, ◌+◌, ◌*◌, ◌^◌, ◌<◌}
use native.Mathlib.Omega.{arith}
use lib.Bits.{bit_and, and_block, and_le_l}
use lib.Dec.{eqb}
use lib.ListN.{length, get_or}
use mir.Val.{Fits}
use mir.Syntax.{w8}
use borrow.Author.Tests.{eqb-true, eqb-false, eq-eqb, ne_eqb}
use Rattle.bits.specs.Bits.{within}
use Rattle.bits.specs.Places.{four_at}
use Rattle.bits.specs.Numbers.{big_from, big, bytes, Bytes}
use Rattle.bits.specs.Masks.{all_within, first_outside}
use Rattle.bits.proofs.Logic.{and_four, four_pass}
use Rattle.bits.proofs.Widths.{big_bytes}

-- four bytes that are known one by one
pub known_four : (e : List ℕ) → Fits w8 (get_or e 0 0) → Fits w8 (get_or e 1 0) → Fits w8 (get_or e 2 0) → Fits w8 (get_or e 3 0) → Bytes (four_at e 0)
known_four e a b c d = (omega arith, (omega arith, (omega arith, (omega arith, tt))))

-- two numbers are the same exactly if both digits are
same_digits : (x y b c : ℕ) → y < 256 → c < 256 → eqb (x * 256 + y) (b * 256 + c) ≡ eqb x b && eqb y c
same_digits x y b c hy hc = go (eqb x b) refl (eqb y c) refl
  where
    go : (p : Bool) → eqb x b ≡ p → (q : Bool) → eqb y c ≡ q → eqb (x * 256 + y) (b * 256 + c) ≡ p && q
    go true e true f = let g = eqb-true x b e in let h = eqb-true y c f in eq-eqb (x * 256 + y) (b * 256 + c) (omega arith)
    go true e false f = ne_eqb (x * 256 + y) (b * 256 + c) (λ h. eqb-false y c f (let g = eqb-true x b e in omega arith))
    go false e q f = ne_eqb (x * 256 + y) (b * 256 + c) (λ h. eqb-false x b e (omega arith))

-- one byte more
within_step : (m n b c : ℕ) → n < 256 → c < 256 → within (m * 256 + n) (b * 256 + c) ≡ within m b && within n c
within_step m n b c hn hc =
    let l : bit_and c n < 256 = let k = and_le_l c n in omega arith in
    ap (λ (x : ℕ). eqb x (b * 256 + c)) (and_block 8 b m c n hc hn) ∙ same_digits (bit_and b m) (bit_and c n) b c l hc

-- each byte under its mask, after a test t of those before
abbrev within_from : Bool → List ℕ → List ℕ → Bool
within_from t [] bs = t
within_from t (m ∷ ms) [] = t
within_from t (m ∷ ms) (b ∷ bs) = within_from (t && within m b) ms bs

within_big : (ms bs : List ℕ) (m b : ℕ) → length ms ≡ length bs → Bytes ms → Bytes bs
    → within (big_from m ms) (big_from b bs) ≡ within_from (within m b) ms bs
within_big [] [] m b e hm hb = refl
within_big [] (y ∷ bs) m b e hm hb = absurd (omega (arith, e))
within_big (x ∷ ms) [] m b e hm hb = absurd (omega (arith, e))
within_big (x ∷ ms) (y ∷ bs) m b e hm hb =
    within_big ms bs (m * 256 + x) (b * 256 + y) (omega (arith, e)) hm.1 hb.1
    ∙ ap (λ (t : Bool). within_from t ms bs) (within_step m x b y hm.0 hb.0)

-- four of them
pub within_four : (m n o p a b c d : ℕ) → Bytes (m ∷ n ∷ o ∷ p ∷ []) → Bytes (a ∷ b ∷ c ∷ d ∷ [])
    → within (big (m ∷ n ∷ o ∷ p ∷ [])) (big (a ∷ b ∷ c ∷ d ∷ [])) ≡ all_within (m ∷ n ∷ o ∷ p ∷ []) (a ∷ b ∷ c ∷ d ∷ [])
within_four m n o p a b c d hm hb = within_big (m ∷ n ∷ o ∷ p ∷ []) (a ∷ b ∷ c ∷ d ∷ []) 0 0 refl hm hb

four_bytes : (n : ℕ) → Bytes (bytes 4 n)
four_bytes n = (omega arith, (omega arith, (omega arith, (omega arith, tt))))

-- bytes that are within a mask as numbers are so each by itself
pub outside_none : (mask : ℕ) (e : List ℕ) → mask < 256 ^ 4 → Bytes (four_at e 0) → within mask (big (four_at e 0)) ≡ true
    → 4 ≡ first_outside (bytes 4 mask) e
outside_none mask e hm hb t =
    let q : within (big (bytes 4 mask)) (big (four_at e 0)) ≡ true = ap (λ (m : ℕ). within m (big (four_at e 0))) (big_bytes 4 mask hm) ∙ t in
    let x = and_four _ _ _ _ (sym (within_four _ _ _ _ _ _ _ _ (four_bytes mask) hb) ∙ q) in
    sym (four_pass x.0 x.1 x.2 x.3)
