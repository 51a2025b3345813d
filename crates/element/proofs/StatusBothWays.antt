-- Bytes 1 to 3 of a status element and the twelve bytes of a record say the same, each way round, under any layout whose bytes are whole.
-- Assumes nothing.
use mathlib.Core.Path.{◌≡◌, refl, sym, ap, subst, ◌∙◌}
use mathlib.Core.Bool.{Bool, true, ◌&&◌}
use mathlib.Core.List.{List, [], ◌∷◌, ◌++◌, append_assoc, append-nil}
use Prim.Native.Nat.{ℕ, ◌+◌, ◌%◌, ◌^◌, ◌<◌, ◌≤◌}
use native.Mathlib.Nat.{add-zero, mod-eq_of_lt}
use lib.Bits.{bit_and}
use lib.Dec.{eqb, leb}
use lib.ListN.{length, get_or, length-append}
use borrow.Author.Tests.{eqb-true, eq-eqb, leb-true}
use Rattle.bits.specs.Bits.{within}
use Rattle.bits.proofs.Logic.{and_four}
use Rattle.element.specs.StatusLayout.{Piece, StatusLayout, size, count, field_mask, most_in, fields_in, byte_from, padded, twelve, three, most_of}
use Rattle.element.proofs.Pieces.{cut_in, AllLe, byte_small, fields_cut, byte_behind, cut_behind, byte_front, byte_cut, fields_count, pad_append, fields_le, append_le, padded_le, parts, masked}

module _ (ps : List Piece) (h : size ps ≡ 8) where
  small : (v : List ℕ) (i : ℕ) → byte_from ps v i < 256
  small v i = subst (λ (n : ℕ). byte_from ps v i < 2 ^ n) h (byte_small ps v i)

  bits_of : (b : ℕ) → b < 256 → byte_from ps (fields_in ps b) 0 ≡ bit_and b (field_mask ps)
  bits_of b l = masked ps b ∙ ap (λ (n : ℕ). bit_and n (field_mask ps)) (ap (λ (n : ℕ). b % 2 ^ n) h ∙ mod-eq_of_lt l)

  -- a byte with no bit but those of fields is that of its fields
  byte_again : (b : ℕ) → b < 256 → within (field_mask ps) b ≡ true → byte_from ps (fields_in ps b) 0 ≡ b
  byte_again b l t = bits_of b l ∙ eqb-true _ _ t

  -- a byte that is made of fields has no other bit
  pub byte_clear : (v : List ℕ) (i : ℕ) → within (field_mask ps) (byte_from ps v i) ≡ true
  byte_clear v i =
      let b = byte_from ps v i in
      let e : byte_from ps (fields_in ps b) 0 ≡ b = ap (λ (l : List ℕ). byte_from ps l 0) (fields_cut ps v i) ∙ byte_cut ps v i in
      eq-eqb _ _ (sym (bits_of b (small v i)) ∙ e)

-- the pieces of each byte have eight bits in all, and there are twelve fields at most, as antt finds by computing it
module _ (l : StatusLayout) where
  pub record Lays : Type 0 where
    pub second : size l.second ≡ 8
    pub third : size l.third ≡ 8
    pub fourth : size l.fourth ≡ 8
    pub few : count l.second + (count l.third + count l.fourth) ≤ 12

  abbrev pub lays_test : Bool
  lays_test =
      ((eqb (size l.second) 8 && eqb (size l.third) 8) && eqb (size l.fourth) 8)
      && leb (count l.second + (count l.third + count l.fourth)) 12

  pub lays_tested : lays_test ≡ true → Lays
  lays_tested t =
      let h = and_four (eqb (size l.second) 8) (eqb (size l.third) 8) (eqb (size l.fourth) 8) (leb (count l.second + (count l.third + count l.fourth)) 12) t in
      record { second = eqb-true _ 8 h.0; third = eqb-true _ 8 h.1; fourth = eqb-true _ 8 h.2; few = leb-true _ 12 h.3 }

  abbrev pub all_most : List ℕ
  all_most = most_in l.second ++ (most_in l.third ++ most_in l.fourth)

-- twelve bytes are the fields, part by part, and zeros
joined_three : (a b c y : List ℕ) → (a ++ (b ++ c)) ++ y ≡ a ++ (b ++ (c ++ y))
joined_three a b c y = append_assoc a (b ++ c) y ∙ ap (λ (z : List ℕ). a ++ z) (append_assoc b c y)

-- what is found by its place, behind one part and behind two
module _ {A : Type 0} (f : List ℕ → ℕ → A) (behind : (xs v : List ℕ) (i : ℕ) → f (xs ++ v) (length xs + i) ≡ f v i) where
  past_one : (a v : List ℕ) {m : ℕ} → length a ≡ m → f (a ++ v) m ≡ f v 0
  past_one a v p = ap (f (a ++ v)) (sym p ∙ sym (add-zero (length a))) ∙ behind a v 0

  past_two : (a b v : List ℕ) {m n : ℕ} → length a ≡ m → length b ≡ n → f (a ++ (b ++ v)) (m + n) ≡ f v 0
  past_two a b v p q = ap (f (a ++ (b ++ v))) (λ i. sym p i + sym q i) ∙ behind a (b ++ v) (length b) ∙ past_one b v refl

three_same : {a b c p q r : ℕ} → a ≡ p → b ≡ q → c ≡ r → ◌≡◌ {A = List ℕ} (a ∷ b ∷ c ∷ []) (p ∷ q ∷ r ∷ [])
three_same x y z = λ i. x i ∷ y i ∷ z i ∷ []

-- three bytes whose fields stand behind a head of four
abbrev pub of_twelve : StatusLayout → List ℕ → List ℕ
of_twelve l v =
    byte_from l.second v 0 ∷ byte_from l.third v (count l.second) ∷ byte_from l.fourth v (count l.second + count l.third) ∷ []

pub three_behind : (l : StatusLayout) (x v : List ℕ) → three l (x ++ v) (length x) ≡ of_twelve l v
three_behind l x v =
    three_same (ap (byte_from l.second (x ++ v)) (sym (add-zero (length x))) ∙ byte_behind l.second x v 0) (byte_behind l.third x v (count l.second))
    (byte_behind l.fourth x v (count l.second + count l.third))

module _ (l : StatusLayout) (h : Lays l) where
  -- three bytes without a reserved bit are those that show what they say
  module _ (b c d : ℕ) where
    abbrev x : List ℕ
    x = fields_in l.second b

    abbrev y : List ℕ
    y = fields_in l.third c

    abbrev z : List ℕ
    z = fields_in l.fourth d

    twelve_is : (r : List ℕ) × (twelve l b c d ≡ x ++ (y ++ (z ++ r)))
    twelve_is =
        let e : length (x ++ (y ++ z)) ≡ count l.second + (count l.third + count l.fourth) = length-append x (y ++ z) ∙ (λ i. fields_count l.second b i + (length-append y z ∙ (λ j. fields_count l.third c j + fields_count l.fourth d j)) i) in
        let t = pad_append 12 (x ++ (y ++ z)) (rw e h.few) in
        (t.0, t.1 ∙ joined_three x y z t.0)

    pub bytes_again_lem : b < 256 → c < 256 → d < 256 → within (field_mask l.second) b ≡ true → within (field_mask l.third) c ≡ true
        → within (field_mask l.fourth) d ≡ true → of_twelve l (twelve l b c d) ≡ b ∷ c ∷ d ∷ []
    bytes_again_lem hb hc hd p q s =
        let t = twelve_is in
        let r = t.0 in
        ap (of_twelve l) t.1
        ∙ three_same (byte_front l.second b (y ++ (z ++ r)) ∙ byte_again l.second h.second b hb p)
        (past_one (byte_from l.third) (byte_behind l.third) x (y ++ (z ++ r)) (fields_count l.second b) ∙ byte_front l.third c (z ++ r) ∙ byte_again l.third h.third c hc q)
        (past_two (byte_from l.fourth) (byte_behind l.fourth) x y (z ++ r) (fields_count l.second b) (fields_count l.third c) ∙ byte_front l.fourth d r ∙ byte_again l.fourth h.fourth d hd s)

    -- and what they say fits
    pub twelve_fit : (i : ℕ) → get_or (twelve l b c d) i 0 ≤ get_or (most_of l) i 0
    twelve_fit =
        padded_le 12 (x ++ (y ++ z)) (all_most l)
        (append_le x _ (y ++ z) _ (fields_le l.second b) (append_le y _ z _ (fields_le l.third c) (fields_le l.fourth d)))

  -- fields that fit are read back from the bytes that show them: part by part
  part_back : (ps : List Piece) (v : List ℕ) (n : ℕ) (a z : List ℕ) → cut_in ps v n ≡ cut_in ps (a ++ z) 0 → ((z : List ℕ) → cut_in ps (a ++ z) 0 ≡ a)
      → fields_in ps (byte_from ps v n) ≡ a
  part_back ps v n a z e g = fields_cut ps v n ∙ e ∙ g z

  module _ (v a b c r : List ℕ) (e : v ≡ a ++ (b ++ (c ++ r))) (p : length a ≡ count l.second) (q : length b ≡ count l.third) where
    cut : (ps : List Piece) (n : ℕ) → cut_in ps v n ≡ cut_in ps (a ++ (b ++ (c ++ r))) n
    cut ps n = ap (λ (z : List ℕ). cut_in ps z n) e

    parts_back : ((z : List ℕ) → cut_in l.second (a ++ z) 0 ≡ a) → ((z : List ℕ) → cut_in l.third (b ++ z) 0 ≡ b) → ((z : List ℕ) → cut_in l.fourth (c ++ z) 0 ≡ c)
        → fields_in l.second (byte_from l.second v 0) ++ (fields_in l.third (byte_from l.third v (count l.second)) ++ fields_in l.fourth (byte_from l.fourth v (count l.second + count l.third))) ≡ a ++ (b ++ c)
    parts_back f g h =
        let m = count l.second in
        let n = count l.third in
        let x = part_back l.second v 0 a (b ++ (c ++ r)) (cut l.second 0) f in
        let y = part_back l.third v m b (c ++ r) (cut l.third m ∙ past_one (cut_in l.third) (cut_behind l.third) a (b ++ (c ++ r)) p) g in
        let z = part_back l.fourth v (m + n) c r (cut l.fourth (m + n) ∙ past_two (cut_in l.fourth) (cut_behind l.fourth) a b (c ++ r) p q) h in
        λ i. x i ++ (y i ++ z i)

  few_parts : (a b c : List ℕ) → length a ≡ count l.second → length b ≡ count l.third → length c ≡ count l.fourth → length (a ++ (b ++ c)) ≤ 12
  few_parts a b c p q s = rw (length-append a (b ++ c), length-append b c, p, q, s) h.few

  nothing_left : (r : List ℕ) → AllLe r [] → r ≡ []
  nothing_left [] k = refl
  nothing_left (n ∷ r) k = absurd k

  three_parts : (f g w a b c r : List ℕ) → f ≡ a ++ g → g ≡ b ++ w → w ≡ c ++ r → r ≡ [] → f ≡ a ++ (b ++ c)
  three_parts f g w a b c r x y z n =
      x ∙ ap (λ (t : List ℕ). a ++ t) (y ∙ ap (λ (t : List ℕ). b ++ t) (z ∙ ap (λ (t : List ℕ). c ++ t) n ∙ append-nil c))

  padded_parts : (f a b c : List ℕ) → f ≡ a ++ (b ++ c) → length (a ++ (b ++ c)) ≤ 12 → (r : List ℕ) × (padded 12 f ≡ a ++ (b ++ (c ++ r)))
  padded_parts f a b c e w = let t = pad_append 12 (a ++ (b ++ c)) w in (t.0, ap (padded 12) e ∙ t.1 ∙ joined_three a b c t.0)

  -- and all of them
  pub twelve_back : (f : List ℕ) → AllLe f (all_most l)
      → let v : List ℕ = padded 12 f in
      twelve l (byte_from l.second v 0) (byte_from l.third v (count l.second)) (byte_from l.fourth v (count l.second + count l.third)) ≡ v
  twelve_back f m =
      let p = parts l.second f (most_in l.third ++ most_in l.fourth) m in
      let q = parts l.third p.1 (most_in l.fourth) p.4 in
      let s = parts l.fourth q.1 [] (subst (AllLe q.1) (sym (append-nil (most_in l.fourth))) q.4) in
      let e = three_parts f p.1 q.1 p.0 q.0 s.0 s.1 p.2 q.2 s.2 (nothing_left s.1 s.4) in
      let t = padded_parts f p.0 q.0 s.0 e (few_parts p.0 q.0 s.0 p.3 q.3 s.3) in
      ap (padded 12) (parts_back (padded 12 f) p.0 q.0 s.0 t.0 t.1 p.3 q.3 p.5 q.5 s.5 ∙ sym e)
