-- Bytes cut into pieces: fields that were put are read back, and bytes without a reserved bit are put together again. Assumes nothing.
use mathlib.Core.Path.{◌≡◌, refl, sym, ap, ◌∙◌}
use mathlib.Core.List.{List, [], ◌∷◌, ◌++◌}
use Prim.Native.Nat.{ℕ, zero, suc, ◌+◌, ◌-◌, ◌*◌, ◌/◌, ◌%◌, ◌^◌, ◌<◌, ◌≤◌}
use native.Mathlib.Nat.{mod-lt, mod-eq_of_lt, mul_assoc, add-mul, add_assoc, mod-mod, zero-mul, zero-add, suc-add}
use native.Mathlib.Omega.{arith}
use lib.Arith.{digits_lt}
use lib.Bits.{bit_and, and_mask, and_zero_r, and_block}
use lib.ListN.{length, get_or}
use lib.Pow.{pow-add, pow_mono, high, low, lt_of_le_ones, le_ones, ones_lt, pow_pos, mod-pow-add}
use Rattle.bits.specs.Numbers.{Each}
use Rattle.bits.proofs.Each.{each_append}
use Rattle.element.specs.StatusLayout.{Piece, field, reserved, size, count, field_mask, most_in, fields_in, byte_from, padded}

-- the fields of v from the i-th on, as far as the pieces hold them
abbrev pub cut_in : List Piece → List ℕ → ℕ → List ℕ
cut_in [] v i = []
cut_in (field w ∷ ps) v i = get_or v i 0 % 2 ^ w ∷ cut_in ps v (suc i)
cut_in (reserved w ∷ ps) v i = cut_in ps v i

pub regroup : (c a b f r : ℕ) → c * (a * b) + (f * b + r) ≡ (c * a + f) * b + r
regroup c a b f r =
    ap (λ (x : ℕ). x + (f * b + r)) (sym (mul_assoc c a b))
    ∙ sym (add_assoc (c * a * b) (f * b) r)
    ∙ ap (λ (x : ℕ). x + r) (sym (add-mul (c * a) f b))

pub byte_small : (ps : List Piece) (v : List ℕ) (i : ℕ) → byte_from ps v i < 2 ^ size ps
byte_small [] v i = omega arith
byte_small (field w ∷ ps) v i = rw (pow-add 2 w (size ps)) (digits_lt (mod-lt (get_or v i 0) (pow_pos w)) (byte_small ps v (suc i)))
byte_small (reserved w ∷ ps) v i =
    let r = byte_from ps v i in
    let h : 0 * 2 ^ size ps + r < 2 ^ w * 2 ^ size ps = digits_lt (pow_pos w) (byte_small ps v i) in
    let e : 0 * 2 ^ size ps + r ≡ r = ap (λ (x : ℕ). x + r) (zero-mul (2 ^ size ps)) ∙ zero-add r in
    rw (pow-add 2 w (size ps)) (rw e at h)

-- whatever stands above them
above_back : (ps : List Piece) (v : List ℕ) (i c : ℕ) → fields_in ps (c * 2 ^ size ps + byte_from ps v i) ≡ cut_in ps v i
above_back [] v i c = refl
above_back (field w ∷ ps) v i c =
    let k = size ps in
    let f = get_or v i 0 % 2 ^ w in
    let r = byte_from ps v (suc i) in
    let e : c * 2 ^ (w + k) + (f * 2 ^ k + r) ≡ (c * 2 ^ w + f) * 2 ^ k + r = ap (λ (x : ℕ). c * x + (f * 2 ^ k + r)) (pow-add 2 w k) ∙ regroup c (2 ^ w) (2 ^ k) f r in
    let q : (c * 2 ^ (w + k) + (f * 2 ^ k + r)) / 2 ^ k % 2 ^ w ≡ f = ap (λ (x : ℕ). x / 2 ^ k % 2 ^ w) e ∙ ap (λ (x : ℕ). x % 2 ^ w) (high (c * 2 ^ w + f) k (byte_small ps v (suc i))) ∙ low c w (mod-lt (get_or v i 0) (pow_pos w)) in
    let t : fields_in ps (c * 2 ^ (w + k) + (f * 2 ^ k + r)) ≡ cut_in ps v (suc i) = ap (fields_in ps) e ∙ above_back ps v (suc i) (c * 2 ^ w + f) in
    λ j. q j ∷ t j
above_back (reserved w ∷ ps) v i c =
    let k = size ps in
    let r = byte_from ps v i in
    let e : c * 2 ^ (w + k) + r ≡ (c * 2 ^ w) * 2 ^ k + r = ap (λ (x : ℕ). c * x + r) (pow-add 2 w k) ∙ ap (λ (x : ℕ). x + r) (sym (mul_assoc c (2 ^ w) (2 ^ k))) in
    ap (fields_in ps) e ∙ above_back ps v i (c * 2 ^ w)

pub fields_cut : (ps : List Piece) (v : List ℕ) (i : ℕ) → fields_in ps (byte_from ps v i) ≡ cut_in ps v i
fields_cut ps v i = ap (fields_in ps) (sym (zero-add (byte_from ps v i)) ∙ ap (λ (x : ℕ). x + byte_from ps v i) (sym (zero-mul (2 ^ size ps)))) ∙ above_back ps v i 0

-- a field in front of the others moves them on
tail_byte : (ps : List Piece) (x : ℕ) (v : List ℕ) (i : ℕ) → byte_from ps (x ∷ v) (suc i) ≡ byte_from ps v i
tail_byte [] x v i = refl
tail_byte (field w ∷ ps) x v i = ap (λ (n : ℕ). get_or v i 0 % 2 ^ w * 2 ^ size ps + n) (tail_byte ps x v (suc i))
tail_byte (reserved w ∷ ps) x v i = tail_byte ps x v i

tail_cut : (ps : List Piece) (x : ℕ) (v : List ℕ) (i : ℕ) → cut_in ps (x ∷ v) (suc i) ≡ cut_in ps v i
tail_cut [] x v i = refl
tail_cut (field w ∷ ps) x v i = ap (λ (n : List ℕ). get_or v i 0 % 2 ^ w ∷ n) (tail_cut ps x v (suc i))
tail_cut (reserved w ∷ ps) x v i = tail_cut ps x v i

-- so a byte's fields are found behind those of the bytes before it
behind : {A : Type 0} (f : List ℕ → ℕ → A) → ((x : ℕ) (v : List ℕ) (i : ℕ) → f (x ∷ v) (suc i) ≡ f v i) → (xs v : List ℕ) (i : ℕ)
    → f (xs ++ v) (length xs + i) ≡ f v i
behind f tail [] v i = ap (f v) (zero-add i)
behind f tail (x ∷ xs) v i = ap (f (x ∷ (xs ++ v))) (suc-add (length xs) i) ∙ tail x (xs ++ v) (length xs + i) ∙ behind f tail xs v i

pub byte_behind : (ps : List Piece) (xs v : List ℕ) (i : ℕ) → byte_from ps (xs ++ v) (length xs + i) ≡ byte_from ps v i
byte_behind ps = behind (byte_from ps) (tail_byte ps)

pub cut_behind : (ps : List Piece) (xs v : List ℕ) (i : ℕ) → cut_in ps (xs ++ v) (length xs + i) ≡ cut_in ps v i
cut_behind ps = behind (cut_in ps) (tail_cut ps)

-- and what stands behind them does not matter
pub byte_front : (ps : List Piece) (b : ℕ) (ys : List ℕ) → byte_from ps (fields_in ps b ++ ys) 0 ≡ byte_from ps (fields_in ps b) 0
byte_front [] b ys = refl
byte_front (field w ∷ ps) b ys =
    ap (λ (n : ℕ). b / 2 ^ size ps % 2 ^ w % 2 ^ w * 2 ^ size ps + n)
    (tail_byte ps (b / 2 ^ size ps % 2 ^ w) (fields_in ps b ++ ys) 0 ∙ byte_front ps b ys ∙ sym (tail_byte ps (b / 2 ^ size ps % 2 ^ w) (fields_in ps b) 0))
byte_front (reserved w ∷ ps) b ys = byte_front ps b ys

pub byte_cut : (ps : List Piece) (v : List ℕ) (i : ℕ) → byte_from ps (cut_in ps v i) 0 ≡ byte_from ps v i
byte_cut [] v i = refl
byte_cut (field w ∷ ps) v i =
    ap (λ (n : ℕ). n * 2 ^ size ps + byte_from ps (get_or v i 0 % 2 ^ w ∷ cut_in ps v (suc i)) 1) (mod-mod (get_or v i 0) (2 ^ w))
    ∙ ap (λ (n : ℕ). get_or v i 0 % 2 ^ w * 2 ^ size ps + n) (tail_byte ps (get_or v i 0 % 2 ^ w) (cut_in ps v (suc i)) 0 ∙ byte_cut ps v (suc i))
byte_cut (reserved w ∷ ps) v i = byte_cut ps v i

pub fields_count : (ps : List Piece) (b : ℕ) → length (fields_in ps b) ≡ count ps
fields_count [] b = refl
fields_count (field w ∷ ps) b = ap suc (fields_count ps b)
fields_count (reserved w ∷ ps) b = fields_count ps b

pub length-padded : (n : ℕ) (v : List ℕ) → length (padded n v) ≡ n
length-padded zero v = refl
length-padded (suc n) [] = ap suc (length-padded n [])
length-padded (suc n) (x ∷ v) = ap suc (length-padded n v)

pub pad_append : (n : ℕ) (xs : List ℕ) → length xs ≤ n → (ys : List ℕ) × (padded n xs ≡ xs ++ ys)
pad_append n [] h = (padded n [], refl)
pad_append zero (x ∷ xs) h = absurd (omega (arith, h))
pad_append (suc n) (x ∷ xs) h = let t = pad_append n xs (omega (arith, h)) in (t.0, ap (λ (l : List ℕ). x ∷ l) t.1)

-- what the fields of three bytes keep to, and 0 behind them
module _ (P : ℕ → Type 0) (z : P 0) where
  pad_each : (n : ℕ) (xs : List ℕ) → Each P xs → Each P (padded n xs)
  pad_each zero xs p = tt
  pad_each (suc n) [] p = (z, pad_each n [] tt)
  pad_each (suc n) (x ∷ xs) p = (p.0, pad_each n xs p.1)

  pub each_padded : (a b c : List ℕ) → Each P a → Each P b → Each P c → Each P (padded 12 (a ++ (b ++ c)))
  each_padded a b c p q r = pad_each 12 (a ++ (b ++ c)) (each_append P a (b ++ c) p (each_append P b c q r))

-- each number of the one list is at most that of the other
abbrev pub AllLe : List ℕ → List ℕ → Type 0
AllLe [] [] = Unit {0}
AllLe [] (m ∷ ms) = ⊥
AllLe (x ∷ xs) [] = ⊥
AllLe (x ∷ xs) (m ∷ ms) = (x ≤ m) × AllLe xs ms

pub fields_le : (ps : List Piece) (b : ℕ) → AllLe (fields_in ps b) (most_in ps)
fields_le [] b = tt
fields_le (field w ∷ ps) b = (le_ones w (mod-lt (b / 2 ^ size ps) (pow_pos w)), fields_le ps b)
fields_le (reserved w ∷ ps) b = fields_le ps b

pub append_le : (xs ms ys ns : List ℕ) → AllLe xs ms → AllLe ys ns → AllLe (xs ++ ys) (ms ++ ns)
append_le [] [] ys ns h l = l
append_le [] (m ∷ ms) ys ns h l = absurd h
append_le (x ∷ xs) [] ys ns h l = absurd h
append_le (x ∷ xs) (m ∷ ms) ys ns h l = (h.0, append_le xs ms ys ns h.1 l)

pub padded_le : (n : ℕ) (xs ms : List ℕ) → AllLe xs ms → (i : ℕ) → get_or (padded n xs) i 0 ≤ get_or (padded n ms) i 0
padded_le zero xs ms h i = omega arith
padded_le (suc n) [] [] h i = omega arith
padded_le (suc n) [] (m ∷ ms) h i = absurd h
padded_le (suc n) (x ∷ xs) [] h i = absurd h
padded_le (suc n) (x ∷ xs) (m ∷ ms) h zero = h.0
padded_le (suc n) (x ∷ xs) (m ∷ ms) h (suc i) = padded_le n xs ms h.1 i

-- fields that fit are found again: of a list the part for one byte, and what is left
abbrev pub Parts : List Piece → List ℕ → List ℕ → Type 0
Parts ps f ms =
    (a : List ℕ) × (b : List ℕ) × (f ≡ a ++ b) × (length a ≡ count ps) × AllLe b ms × ((z : List ℕ) → cut_in ps (a ++ z) 0 ≡ a)

pub parts : (ps : List Piece) (f ms : List ℕ) → AllLe f (most_in ps ++ ms) → Parts ps f ms
parts [] f ms h = ([], f, refl, refl, h, λ z. refl)
parts (field w ∷ ps) [] ms h = absurd h
parts (field w ∷ ps) (x ∷ f) ms h =
    let t = parts ps f ms h.1 in (
      x ∷ t.0,
      t.1,
      ap (λ (l : List ℕ). x ∷ l) t.2,
      ap suc t.3,
      t.4,
      λ z. let e : x % 2 ^ w ≡ x = mod-eq_of_lt (lt_of_le_ones w h.0) in let r = tail_cut ps x (t.0 ++ z) 0 ∙ t.5 z in λ i. e i ∷ r i,
    )
parts (reserved w ∷ ps) f ms h = parts ps f ms h

-- the fields of a byte are its bits under the mask of fields
pub mask_below : (ps : List Piece) → field_mask ps < 2 ^ size ps
mask_below [] = omega arith
mask_below (field w ∷ ps) = rw (pow-add 2 w (size ps)) (digits_lt (ones_lt w) (mask_below ps))
mask_below (reserved w ∷ ps) =
    let a = mask_below ps in
    let b : 2 ^ size ps ≤ 2 ^ (w + size ps) = pow_mono (omega arith) in
    omega arith

pub masked : (ps : List Piece) (b : ℕ) → byte_from ps (fields_in ps b) 0 ≡ bit_and (b % 2 ^ size ps) (field_mask ps)
masked [] b = sym (and_zero_r (b % 2 ^ 0))
masked (field w ∷ ps) b =
    let k = size ps in
    let x = b / 2 ^ k % 2 ^ w in
    ap (λ (n : ℕ). x % 2 ^ w * 2 ^ k + n) (tail_byte ps x (fields_in ps b) 0 ∙ masked ps b)
    ∙ ap (λ (n : ℕ). n * 2 ^ k + bit_and (b % 2 ^ k) (field_mask ps)) (sym (and_mask x w))
    ∙ sym (and_block k x (2 ^ w - 1) (b % 2 ^ k) (field_mask ps) (mod-lt b (pow_pos k)) (mask_below ps))
    ∙ ap (λ (n : ℕ). bit_and n ((2 ^ w - 1) * 2 ^ k + field_mask ps)) (sym (mod-pow-add b w k))
masked (reserved w ∷ ps) b =
    let k = size ps in
    let x = b / 2 ^ k % 2 ^ w in
    let e : bit_and x 0 * 2 ^ k + bit_and (b % 2 ^ k) (field_mask ps) ≡ bit_and (b % 2 ^ k) (field_mask ps)
    = ap (λ (n : ℕ). n * 2 ^ k + bit_and (b % 2 ^ k) (field_mask ps)) (and_zero_r x) ∙ ap (λ (n : ℕ). n + bit_and (b % 2 ^ k) (field_mask ps)) (zero-mul (2 ^ k)) ∙ zero-add (bit_and (b % 2 ^ k) (field_mask ps)) in
    let z : 0 * 2 ^ k + field_mask ps ≡ field_mask ps = ap (λ (n : ℕ). n + field_mask ps) (zero-mul (2 ^ k)) ∙ zero-add (field_mask ps) in
    masked ps b
    ∙ sym e
    ∙ sym (and_block k x 0 (b % 2 ^ k) (field_mask ps) (mod-lt b (pow_pos k)) (mask_below ps))
    ∙ (λ i. bit_and (sym (mod-pow-add b w k) i) (z i))
