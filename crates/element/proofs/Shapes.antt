-- Status elements as one number: fields that are cut out of it, or put into it, by their places are those of the pieces. Assumes nothing.
use mathlib.Core.Path.{◌≡◌, refl, sym, ap, subst, ◌∙◌}
use mathlib.Core.List.{List, [], ◌∷◌, ◌++◌, append_assoc}
use Prim.Native.Nat.{ℕ, zero, suc, ◌+◌, ◌-◌, ◌*◌, ◌/◌, ◌%◌, ◌^◌, ◌<◌, ◌≤◌}
use native.Mathlib.Nat.{mod-lt, mod-eq_of_lt, add_comm, div-one, zero-add, zero-mul}
use native.Mathlib.Omega.{arith}
use lib.Arith.{digits_lt}
use lib.Bits.{bit_and, bit_or, and_mask, and_zero_r, or_zero_l, or_shifted}
use lib.ListN.{length, drop, get_or, length-append, drop_of_length-le}
use lib.Seq.{drop-cons}
use lib.Pow as pow
use Rattle.bits.specs.Numbers.{big, bytes, Bytes}
use Rattle.bits.proofs.Widths.{bytes_big}
use Rattle.element.specs.StatusLayout.{Piece, StatusLayout, field, reserved, size, count, most_in, most_of, fields_in, byte_from, padded, twelve, three, shifts_in, shifts_of, cut_at, put_onto, cuts, puts}
use Rattle.element.proofs.Pieces.{regroup, byte_small, length-padded, each_padded}

-- a field of one byte of a number
cut_field : (m k w : ℕ) → k + w ≤ 8 → m / 2 ^ k % 2 ^ w ≡ m % 2 ^ 8 / 2 ^ k % 2 ^ w
cut_field m k w h =
    let j = 8 - (k + w) in
    let e : 8 ≡ (j + w) + k = omega arith in
    sym (ap (λ (x : ℕ). m % 2 ^ x / 2 ^ k % 2 ^ w) e ∙ ap (λ (x : ℕ). x % 2 ^ w) (pow.field m (j + w) k) ∙ pow.mod-mod-pow (m / 2 ^ k) j w)

cut_is : (n b k w : ℕ) → b ≤ 16 → k + w ≤ 8 → cut_at n (b + k) (2 ^ w - 1) ≡ n / 2 ^ b % 256 / 2 ^ k % 2 ^ w
unfolding cut_at
cut_is n b k w hb h =
    let e : (b + k) % 32 ≡ b + k = mod-eq_of_lt (omega arith) in
    and_mask (n / 2 ^ ((b + k) % 32)) w
    ∙ ap (λ (x : ℕ). n / 2 ^ x % 2 ^ w) e
    ∙ ap (λ (x : ℕ). x % 2 ^ w) (sym (pow.shr-shr n b k))
    ∙ cut_field (n / 2 ^ b) k w h

-- the fields of one byte
cuts_byte : (n b : ℕ) (ps : List Piece) → b ≤ 16 → size ps ≤ 8 → cuts n (shifts_in b ps) (most_in ps) ≡ fields_in ps (n / 2 ^ b % 256)
cuts_byte n b [] hb h = refl
cuts_byte n b (field w ∷ ps) hb h =
    let x = cut_is n b (size ps) w hb (omega arith) in
    let y = cuts_byte n b ps hb (omega arith) in
    λ i. x i ∷ y i
cuts_byte n b (reserved w ∷ ps) hb h = cuts_byte n b ps hb (omega arith)

cuts_behind : (n b : ℕ) (ps : List Piece) (ss ms : List ℕ)
    → cuts n (shifts_in b ps ++ ss) (most_in ps ++ ms) ≡ cuts n (shifts_in b ps) (most_in ps) ++ cuts n ss ms
cuts_behind n b [] ss ms = refl
cuts_behind n b (field w ∷ ps) ss ms = ap (λ (l : List ℕ). cut_at n (b + size ps) (2 ^ w - 1) ∷ l) (cuts_behind n b ps ss ms)
cuts_behind n b (reserved w ∷ ps) ss ms = cuts_behind n b ps ss ms

-- where there is no field, nothing is cut
cuts_padded : (n k : ℕ) (ss ms : List ℕ) → length ss ≡ length ms → cuts n (padded k ss) (padded k ms) ≡ padded k (cuts n ss ms)
unfolding cut_at
cuts_padded n zero ss ms e = refl
cuts_padded n (suc k) [] [] e =
    let x = and_zero_r (n / 2 ^ (0 % 32)) in
    let y = cuts_padded n k [] [] refl in
    λ i. x i ∷ y i
cuts_padded n (suc k) [] (m ∷ ms) e = absurd (omega (arith, e))
cuts_padded n (suc k) (s ∷ ss) [] e = absurd (omega (arith, e))
cuts_padded n (suc k) (s ∷ ss) (m ∷ ms) e = ap (λ (l : List ℕ). cut_at n s m ∷ l) (cuts_padded n k ss ms (omega (arith, e)))

length-shifts : (b : ℕ) (ps : List Piece) → length (shifts_in b ps) ≡ count ps
length-shifts b [] = refl
length-shifts b (field w ∷ ps) = ap suc (length-shifts b ps)
length-shifts b (reserved w ∷ ps) = length-shifts b ps

length_most : (ps : List Piece) → length (most_in ps) ≡ count ps
length_most [] = refl
length_most (field w ∷ ps) = ap suc (length_most ps)
length_most (reserved w ∷ ps) = length_most ps

module _ (l : StatusLayout) (p : size l.second ≡ 8) (q : size l.third ≡ 8) (r : size l.fourth ≡ 8) where
  same_length_lem : length (shifts_in 16 l.second ++ (shifts_in 8 l.third ++ shifts_in 0 l.fourth)) ≡ length (most_in l.second ++ (most_in l.third ++ most_in l.fourth))
  same_length_lem =
      let a = shifts_in 16 l.second in
      let b = shifts_in 8 l.third in
      let c = shifts_in 0 l.fourth in
      let x = most_in l.second in
      let y = most_in l.third in
      let z = most_in l.fourth in
      omega (arith, length-append a (b ++ c), length-append b c, length-append x (y ++ z), length-append y z, length-shifts 16 l.second, length-shifts 8 l.third, length-shifts 0 l.fourth, length_most l.second, length_most l.third, length_most l.fourth)

  -- all that a number shows
  pub twelve_cut : (n : ℕ) → cuts n (shifts_of l) (most_of l) ≡ twelve l (n / 2 ^ 16 % 256) (n / 2 ^ 8 % 256) (n % 256)
  twelve_cut n =
      let a : size l.second ≤ 8 = omega arith in
      let b : size l.third ≤ 8 = omega arith in
      let c : size l.fourth ≤ 8 = omega arith in
      let x = cuts_byte n 16 l.second (omega arith) a in
      let y = cuts_byte n 8 l.third (omega arith) b in
      let z = cuts_byte n 0 l.fourth (omega arith) c ∙ ap (λ (m : ℕ). fields_in l.fourth (m % 256)) (div-one n) in
      let v = shifts_in 8 l.third ++ shifts_in 0 l.fourth in
      let w = most_in l.third ++ most_in l.fourth in
      cuts_padded n 12 (shifts_in 16 l.second ++ v) (most_in l.second ++ w) same_length_lem
      ∙ ap (padded 12) (cuts_behind n 16 l.second v w ∙ ap (λ (t : List ℕ). cuts n (shifts_in 16 l.second) (most_in l.second) ++ t) (cuts_behind n 8 l.third (shifts_in 0 l.fourth) (most_in l.fourth)))
      ∙ ap (padded 12) (λ i. x i ++ (y i ++ z i))

-- one field more, above what is put already
put_above : (x b k w f r : ℕ) → b ≤ 16 → k + w ≤ 8 → f < 2 ^ k → r < 2 ^ b
    → put_onto x (b + k) (2 ^ w - 1) (f * 2 ^ b + r) ≡ (x % 2 ^ w * 2 ^ k + f) * 2 ^ b + r
unfolding put_onto
put_above x b k w f r hb h hf hr =
    let e : (b + k) % 32 ≡ b + k = mod-eq_of_lt (omega arith) in
    let s : f * 2 ^ b + r < 2 ^ (b + k) = subst (λ (n : ℕ). f * 2 ^ b + r < n) (sym (pow.pow-add 2 k b) ∙ ap (λ (n : ℕ). 2 ^ n) (add_comm k b)) (digits_lt hf hr) in
    let t : bit_and x (2 ^ w - 1) * 2 ^ ((b + k) % 32) % 2 ^ 32 ≡ x % 2 ^ w * 2 ^ (b + k) = (λ i. and_mask x w i * 2 ^ e i % 2 ^ 32) ∙ pow.shl_exact w (b + k) 32 (mod-lt x (pow.pow_pos w)) (omega arith) in
    let u : 2 ^ (b + k) ≡ 2 ^ k * 2 ^ b = ap (λ (n : ℕ). 2 ^ n) (add_comm b k) ∙ pow.pow-add 2 k b in
    ap (λ (n : ℕ). bit_or n (f * 2 ^ b + r)) t
    ∙ or_shifted (x % 2 ^ w) (b + k) (f * 2 ^ b + r) s
    ∙ ap (λ (n : ℕ). x % 2 ^ w * n + (f * 2 ^ b + r)) u
    ∙ regroup (x % 2 ^ w) (2 ^ k) (2 ^ b) f r

-- the fields of one byte, above those of the bytes behind it
puts_byte : (ps : List Piece) (v : List ℕ) (i j b : ℕ) (ss ms : List ℕ) → i + count ps ≡ j → b ≤ 16 → size ps ≤ 8 → puts ss ms v j < 2 ^ b
    → puts (shifts_in b ps ++ ss) (most_in ps ++ ms) v i ≡ byte_from ps v i * 2 ^ b + puts ss ms v j
puts_byte [] v i j b ss ms e hb h hr =
    let a : i ≡ j = omega arith in
    ap (puts ss ms v) a ∙ sym (ap (λ (n : ℕ). n + puts ss ms v j) (zero-mul (2 ^ b)) ∙ zero-add (puts ss ms v j))
puts_byte (field w ∷ ps) v i j b ss ms e hb h hr =
    let k = size ps in
    ap (put_onto (get_or v i 0) (b + k) (2 ^ w - 1)) (puts_byte ps v (suc i) j b ss ms (omega arith) hb (omega arith) hr)
    ∙ put_above (get_or v i 0) b k w (byte_from ps v (suc i)) (puts ss ms v j) hb (omega arith) (byte_small ps v (suc i)) hr
puts_byte (reserved w ∷ ps) v i j b ss ms e hb h hr = puts_byte ps v i j b ss ms e hb (omega arith) hr

-- where there is no field, nothing is put
padded_is : (k : ℕ) (xs : List ℕ) → length xs ≤ k → padded k xs ≡ xs ++ padded (k - length xs) []
padded_is k [] h = ap (λ (n : ℕ). padded n []) (let e : k ≡ k - 0 = omega arith in e)
padded_is zero (x ∷ xs) h = absurd (omega (arith, h))
padded_is (suc k) (x ∷ xs) h =
    let e : k - length xs ≡ suc k - suc (length xs) = omega arith in
    ap (λ (l : List ℕ). x ∷ l) (padded_is k xs (omega (arith, h)) ∙ ap (λ (n : ℕ). xs ++ padded n []) e)

none_put : (k : ℕ) (v : List ℕ) (i : ℕ) → puts (padded k []) (padded k []) v i ≡ 0
unfolding put_onto
none_put zero v i = refl
none_put (suc k) v i =
    ap (λ (n : ℕ). bit_or (n * 2 ^ (0 % 32) % 2 ^ 32) (puts (padded k []) (padded k []) v (suc i))) (and_zero_r (get_or v i 0))
    ∙ or_zero_l (puts (padded k []) (padded k []) v (suc i))
    ∙ none_put k v (suc i)

padded_three : (x y z : List ℕ) (n : ℕ) → length x + (length y + length z) ≡ n → n ≤ 12 → padded 12 (x ++ (y ++ z)) ≡ x ++ (y ++ (z ++ padded (12 - n) []))
padded_three x y z n e h =
    let d : length (x ++ (y ++ z)) ≡ n = length-append x (y ++ z) ∙ ap (λ (m : ℕ). length x + m) (length-append y z) ∙ e in
    padded_is 12 (x ++ (y ++ z)) (rw d h)
    ∙ ap (λ (m : ℕ). (x ++ (y ++ z)) ++ padded (12 - m) []) d
    ∙ append_assoc x (y ++ z) (padded (12 - n) [])
    ∙ ap (λ (t : List ℕ). x ++ t) (append_assoc y z (padded (12 - n) []))

-- all that bytes 1 to 3 show, as one number
module _ (l : StatusLayout) (p : size l.second ≡ 8) (q : size l.third ≡ 8) (r : size l.fourth ≡ 8) where
  abbrev two_counts : ℕ
  two_counts = count l.second + count l.third

  module _ (few : count l.second + (count l.third + count l.fourth) ≤ 12) (v : List ℕ) (i : ℕ) where
    abbrev a : ℕ
    a = byte_from l.second v i

    abbrev b : ℕ
    b = byte_from l.third v (i + count l.second)

    abbrev c : ℕ
    c = byte_from l.fourth v (i + two_counts)

    abbrev left : ℕ
    left = 12 - (two_counts + count l.fourth)

    behind_fourth : puts (shifts_in 0 l.fourth ++ padded left []) (most_in l.fourth ++ padded left []) v (i + two_counts) ≡ c
    behind_fourth =
        let e = none_put left v (i + two_counts + count l.fourth) in
        puts_byte l.fourth v (i + two_counts) (i + two_counts + count l.fourth) 0 (padded left []) (padded left []) refl (omega arith) (omega arith) (rw e (omega arith))
        ∙ (let x : c * 2 ^ 0 + puts (padded left []) (padded left []) v (i + two_counts + count l.fourth) ≡ c = omega (arith, e) in x)

    fourth_small : c < 2 ^ 8
    fourth_small = subst (λ (n : ℕ). c < 2 ^ n) r (byte_small l.fourth v (i + two_counts))

    third_small : b < 2 ^ 8
    third_small = subst (λ (n : ℕ). b < 2 ^ n) q (byte_small l.third v (i + count l.second))

    behind_third : puts (shifts_in 8 l.third ++ (shifts_in 0 l.fourth ++ padded left [])) (most_in l.third ++ (most_in l.fourth ++ padded left [])) v (i + count l.second) ≡ b * 2 ^ 8 + c
    behind_third =
        puts_byte l.third v (i + count l.second) (i + two_counts) 8 (shifts_in 0 l.fourth ++ padded left []) (most_in l.fourth ++ padded left []) (omega arith) (omega arith) (omega arith) (rw behind_fourth fourth_small)
        ∙ ap (λ (n : ℕ). b * 2 ^ 8 + n) behind_fourth

    abbrev all : ℕ
    all = two_counts + count l.fourth

    shifts_are : shifts_of l ≡ shifts_in 16 l.second ++ (shifts_in 8 l.third ++ (shifts_in 0 l.fourth ++ padded left []))
    shifts_are =
        padded_three (shifts_in 16 l.second) (shifts_in 8 l.third) (shifts_in 0 l.fourth) all
        (omega (arith, length-shifts 16 l.second, length-shifts 8 l.third, length-shifts 0 l.fourth))
        (omega arith)

    most_are : most_of l ≡ most_in l.second ++ (most_in l.third ++ (most_in l.fourth ++ padded left []))
    most_are =
        padded_three (most_in l.second) (most_in l.third) (most_in l.fourth) all
        (omega (arith, length_most l.second, length_most l.third, length_most l.fourth))
        (omega arith)

    pub three_put : puts (shifts_of l) (most_of l) v i ≡ (a * 256 + b) * 256 + c
    three_put =
        let e = behind_third in
        let s : b * 2 ^ 8 + c < 2 ^ 16 = let x = third_small in let y = fourth_small in omega arith in
        (λ j. puts (shifts_are j) (most_are j) v i)
        ∙ puts_byte l.second v i (i + count l.second) 16 _ _ refl (omega arith) (omega arith) (rw e s)
        ∙ ap (λ (n : ℕ). a * 2 ^ 16 + n) e
        ∙ (let x : a * 2 ^ 16 + (b * 2 ^ 8 + c) ≡ (a * 256 + b) * 256 + c = omega arith in x)

    second_small : a < 2 ^ 8
    second_small = subst (λ (n : ℕ). a < 2 ^ n) p (byte_small l.second v i)

    -- and again as bytes
    pub three_back : bytes 4 (puts (shifts_of l) (most_of l) v i) ≡ 0 ∷ three l v i
    three_back =
        let x = second_small in
        let y = third_small in
        let z = fourth_small in
        let h : Bytes (0 ∷ three l v i) = (omega arith, (omega arith, (omega arith, (omega arith, tt)))) in
        ap (bytes 4) (three_put ∙ (let e : (a * 256 + b) * 256 + c ≡ big (0 ∷ three l v i) = omega arith in e)) ∙ bytes_big (0 ∷ three l v i) h

-- The lowest bits of twelve fields are bytes.
shifts_small : (b : ℕ) (ps : List Piece) → b + size ps ≤ 24 → Bytes (shifts_in b ps)
shifts_small b [] h = tt
shifts_small b (field w ∷ ps) h = (omega arith, shifts_small b ps (omega arith))
shifts_small b (reserved w ∷ ps) h = shifts_small b ps (omega arith)

pub all_shifts : (l : StatusLayout) → size l.second ≡ 8 → size l.third ≡ 8 → size l.fourth ≡ 8 → Bytes (shifts_of l)
all_shifts l p q r =
    each_padded (λ b. b < 256) (omega arith) (shifts_in 16 l.second) (shifts_in 8 l.third) (shifts_in 0 l.fourth)
    (shifts_small 16 l.second (omega arith))
    (shifts_small 8 l.third (omega arith))
    (shifts_small 0 l.fourth (omega arith))

-- a list by its numbers, n of them from i on
abbrev pub listed : List ℕ → ℕ → ℕ → List ℕ
listed v i zero = []
listed v i (suc n) = get_or v i 0 ∷ listed v (suc i) n

list_from : (v : List ℕ) (i n : ℕ) → length v ≡ i + n → drop i v ≡ listed v i n
list_from v i zero e = drop_of_length-le v {i = i} (omega (arith, e))
list_from v i (suc n) e = drop-cons v i 0 (omega (arith, e)) ∙ ap (λ (t : List ℕ). get_or v i 0 ∷ t) (list_from v (suc i) n (omega (arith, e)))

padded_listed : (v : List ℕ) → padded 12 v ≡ listed (padded 12 v) 0 12
padded_listed v = list_from (padded 12 v) 0 12 (length-padded 12 v)

pub shifts_listed : (l : StatusLayout) → shifts_of l ≡ listed (shifts_of l) 0 12
shifts_listed l = padded_listed (shifts_in 16 l.second ++ (shifts_in 8 l.third ++ shifts_in 0 l.fourth))

pub mosts_listed : (l : StatusLayout) → most_of l ≡ listed (most_of l) 0 12
mosts_listed l = padded_listed (most_in l.second ++ (most_in l.third ++ most_in l.fourth))
